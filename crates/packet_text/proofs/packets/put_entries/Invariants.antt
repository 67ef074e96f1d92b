use Rattle.std.proofs.Common.{◌≡◌, ◌++◌, map, drop, string_bytes}
use Rattle.std.specs.List.{flat_map}
use Rattle.program_model.specs.Checked.{line}
use Rattle.program_model.specs.Shown.{rec_words}
use Rattle.packet_codec.specs.Values.{rec_of}
use Rattle.packet_text.proofs.packets.put_entries.Given as goal

abbrev pub invariant-loop-entry : goal.invariant-loop-entry
invariant-loop-entry l =
    string_bytes l.text ++ flat_map (λ rec. line (rec_words rec)) (map rec_of (drop l.entry-index l.entries))
    ≡ string_bytes l.fn.text ++ flat_map (λ rec. line (rec_words rec)) (map rec_of l.entries)
