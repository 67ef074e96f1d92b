use Rattle.std.proofs.Common.{◌≡◌, drop}
use Rattle.net_core.specs.Folder.{contents_of}
use Rattle.net_core.proofs.outside.mem_files.first_named.Given as goal

-- no file so far has the name
abbrev pub invariant-loop-entry : goal.invariant-loop-entry
invariant-loop-entry l = contents_of (drop l.entry-index l.entries) l.name ≡ contents_of l.entries l.name
