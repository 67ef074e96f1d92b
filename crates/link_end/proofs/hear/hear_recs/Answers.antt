use Rattle.std.proofs.Common.{◌∙◌, ◌+◌, map, Some, None, ap}
use Rattle.protocol_model.specs.Packet.{is_rec}
use Rattle.packet_codec.specs.Values.{rec_of}
use Rattle.packet_codec.specs.declared.packet.Rec.{Rec}
use Rattle.packet_codec.proofs.Puts.{list_all-get}
use Rattle.link_end.specs.Answers.{news_value}
use Rattle.link_end.proofs.Heard.{heard_more, heard_bad}
use Rattle.link_end.proofs.hear.hear_recs.Goals as goal

pub hear_rec-requires : goal.hear_rec-requires
hear_rec-requires c =
    let r = c.requires in (
      r.0,
      ap (λ (rec : Rec). is_rec r.0 (rec_of rec)) c.rec-item.is
          ∙ list_all-get (λ (rec : Rec). is_rec r.0 (rec_of rec)) c.args.recs.now c.loop-rec.rec-index
          c.rec-item.result r.1 c.loop-rec-test.true,
    )

pub returns-in-Some : goal.returns-in-Some
returns-in-Some c = λ v past m told handed h.
    heard_bad c.hear_rec.new.book (map news_value c.args.news.now.items) (map news_value c.hear_rec.new.news.items) v
    past m told handed c.args.recs.now (c.loop-rec.rec-index + 1) c.in-Some.bad
    (heard_more c.loop-rec.book c.hear_rec.new.book (map news_value c.args.news.now.items)
    (map news_value c.loop-rec.news.items) (map news_value c.hear_rec.new.news.items)
    v past m told handed c.args.recs.now c.loop-rec.rec-index c.rec-item.result (Some c.in-Some.bad)
    c.in_ok-bad.field-0 c.rec-item.is c.loop-rec-test.true
    (c.loop-rec.invariant v past m told handed h) (λ es keeps. c.in_ok-bad.ensures v past m es handed keeps)
    c.in-Some.is)

pub loop-rec-preserved : goal.loop-rec-preserved
loop-rec-preserved c = λ v past m told handed h.
    heard_more c.loop-rec.book c.hear_rec.new.book (map news_value c.args.news.now.items)
    (map news_value c.loop-rec.news.items) (map news_value c.hear_rec.new.news.items)
    v past m told handed c.args.recs.now c.loop-rec.rec-index c.rec-item.result None c.in_ok-bad.field-0 c.rec-item.is
    c.loop-rec-test.true
    (c.loop-rec.invariant v past m told handed h) (λ es keeps. c.in_ok-bad.ensures v past m es handed keeps)
    c.in_default.is
