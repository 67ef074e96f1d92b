use Rattle.std.specs.Io.KnownBytes.{Keeps}
use Rattle.unet.proofs.host.write_retrying.Given as goal

-- an interrupted write took nothing
abbrev pub invariant-loop : goal.invariant-loop
invariant-loop g l = Keeps (g.W.Write.contents l.fn.inner) (g.W.Write.contents l.inner)
