-- What one more event adds to the counts, and what the summary says of them.
use Rattle.std.proofs.Common.{◌≡◌, ℕ, ◌+◌, List, [], ◌∷◌, ◌++◌, length, length-append, Bool, true, false, cond, Option, Some, None, refl, ap, sym, ◌∙◌, subst, filter_map, sum_by, count_by, append-nil}
use Rattle.std.specs.Int.{from_bool}
use Rattle.std.specs.List.{cons_option, flat_map}
use Rattle.std.proofs.lemmas.List.Sums.{sum_by_push}
use Rattle.std.proofs.lemmas.List.Elements.{filter_map-append}
use Rattle.std.proofs.lemmas.Grind.{flat_map-append}
use Rattle.sha1.specs.Sha1.{sha1, Holds}
use Rattle.protocol_model.specs.Side.{Side, AtServer, AtClient}
use Rattle.protocol_model.specs.Value.{Table}
use Rattle.script_model.specs.Lines.{Text}
use Rattle.script_model.specs.Reports.{Report, report_text, hex_of}
use Rattle.replication_model.specs.Story.{Story}
use Rattle.replay_core.specs.Settled.{settled_count}
use Rattle.sample_summary.specs.Sampled.{packet_by, packets_by, tells_refusal, summary_of}
use Rattle.sample_summary.specs.Tallied.{IsTraffic, AreCounted, Tallies, summary_lines}
use Rattle.sample_summary.specs.declared.counts.Traffic.{Traffic}
use Rattle.sample_summary.specs.declared.counts.Counts.{Counts}
use Rattle.sample_summary.specs.declared.tally.Tally.{Tally}

-- one more packet
pub packet_more : (old new : Traffic) (packet : List ℕ) (packets : List (List ℕ)) → new.packets ≡ old.packets + 1
    → new.bytes ≡ old.bytes + length packet → IsTraffic old packets → IsTraffic new (packets ++ packet ∷ [])
packet_more old new packet packets more bytes is = record {
  packets = more ∙ ap (λ (n : ℕ). n + 1) is.packets ∙ sym (length-append packets (packet ∷ []));
  bytes = bytes ∙ ap (λ (n : ℕ). n + length packet) is.bytes ∙ sym (sum_by_push length packets packet);
}

-- none more
pub packet_same : (t : Traffic) (packets : List (List ℕ)) → IsTraffic t packets → IsTraffic t (packets ++ [])
packet_same t packets is = subst (IsTraffic t) (sym (append-nil packets)) is

one_told : (side : Side) (report : Report) → filter_map (packet_by side) (report ∷ []) ≡ cons_option (packet_by side report) []
one_told side report = by (packet_by side report) refl
  where
    by : (o : Option (List ℕ)) → packet_by side report ≡ o → filter_map (packet_by side) (report ∷ []) ≡ cons_option o []
    by None e = rw e refl
    by (Some x) e = rw e refl

-- the packets of a side, with those of one more report
side_more : (side : Side) (t : Traffic) (told : List Report) (report : Report) (packet : Option (List ℕ)) → packet ≡ packet_by side report
    → IsTraffic t (packets_by side told ++ cons_option packet []) → IsTraffic t (packets_by side (told ++ report ∷ []))
side_more side t told report packet is h =
    let whole : packets_by side (told ++ report ∷ []) ≡ packets_by side told ++ cons_option packet [] =
    filter_map-append (packet_by side) told (report ∷ [])
    ∙ ap (λ (l : List (List ℕ)). packets_by side told ++ l) (one_told side report ∙ ap (λ (o : Option (List ℕ)). cons_option o []) (sym is)) in
    subst (IsTraffic t) (sym whole) h

bit_is : (b : Bool) → from_bool b ≡ cond b 1 0
bit_is true = refl
bit_is false = refl

-- one more report is counted
pub counts_more : (old new : Counts) (told : List Report) (report : Report) (down up : Option (List ℕ)) (refused : Bool)
    → down ≡ packet_by AtServer report → up ≡ packet_by AtClient report → refused ≡ tells_refusal report
    → ((packets : List (List ℕ)) → IsTraffic old.down packets → IsTraffic new.down (packets ++ cons_option down []))
    → ((packets : List (List ℕ)) → IsTraffic old.up packets → IsTraffic new.up (packets ++ cons_option up []))
    → new.refused ≡ old.refused + from_bool refused → AreCounted old told → AreCounted new (told ++ report ∷ [])
counts_more old new told report down up refused down_is up_is refused_is downs ups sum h = record {
  down = side_more AtServer new.down told report down down_is (downs (packets_by AtServer told) h.down);
  up = side_more AtClient new.up told report up up_is (ups (packets_by AtClient told) h.up);
  refused = sum ∙ ap (λ (n : ℕ). n + from_bool refused) h.refused
      ∙ ap (λ (n : ℕ). count_by tells_refusal told + n) (bit_is refused ∙ ap (λ (b : Bool). cond b 1 0) refused_is)
      ∙ sym (sum_by_push (λ (r : Report). cond (tells_refusal r) 1 0) told report);
}

one_text : (report : Report) → flat_map report_text (report ∷ []) ≡ report_text report
one_text report = append-nil (report_text report)

-- and its text is digested
pub tally_more : (old new : Tally) (told : List Report) (report : Report) (text : Text) → text ≡ report_text report
    → (AreCounted old.counts told → AreCounted new.counts (told ++ report ∷ []))
    → ((m : List ℕ) → Holds old.transcript m → Holds new.transcript (m ++ text)) → Tallies old told → Tallies new (told ++ report ∷ [])
tally_more old new told report text is counts holds h = record {
  counts = counts h.counts;
  transcript = subst (Holds new.transcript)
      (ap (λ (t : Text). flat_map report_text told ++ t) (is ∙ sym (one_text report)) ∙ sym (flat_map-append report_text told (report ∷ [])))
      (holds (flat_map report_text told) h.transcript);
}

-- the lines of the counts are the summary
pub summary_is : (ticks : ℕ) (t : Tally) (settled : ℕ) (digest : List ℕ) (table : Table) (story : Story) (told : List Report) (text : Text)
    → Tallies t told → settled ≡ settled_count table story → ((m : List ℕ) → Holds t.transcript m → digest ≡ sha1 m)
    → text ≡ summary_lines ticks t.counts settled (hex_of digest) → text ≡ summary_of ticks table (story, told)
summary_is ticks t settled digest table story told text h all digested is =
    let d = digested (flat_map report_text told) h.transcript in
    rw (h.counts.down.packets, h.counts.down.bytes, h.counts.up.packets, h.counts.up.bytes, h.counts.refused, all, d) at is
