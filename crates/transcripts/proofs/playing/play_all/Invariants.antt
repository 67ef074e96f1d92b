use Rattle.std.proofs.Common.{◌≡◌, map, drop}
use Rattle.class_layout.specs.Tables.{table_in}
use Rattle.script_lines.specs.LineOf.{line_of}
use Rattle.replication_model.specs.Transcript.{transcript}
use Rattle.transcripts.proofs.Played.{IsPlayed}
use Rattle.transcripts.proofs.playing.play_all.Given as goal

abbrev pub invariant-loop-line : goal.invariant-loop-line
invariant-loop-line g l =
    let S = g.S.Sink in
    record {
      played : IsPlayed l.replay l.classes (drop l.line-index l.lines)
          (transcript (table_in l.classes) (map line_of l.lines)) (S.taken l.fn.out) (S.taken l.out);
      kept : S.faults l.out ≡ S.faults l.fn.out;
    }
