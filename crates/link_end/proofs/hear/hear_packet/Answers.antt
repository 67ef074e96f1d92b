use Rattle.std.proofs.Common.{◌∙◌, ◌∷◌, [], map, sym}
use Rattle.connection_model.specs.Feed.{Told}
use Rattle.bit_io.specs.HeadOf.{head_of}
use Rattle.link_end.specs.Answers.{news_value}
use Rattle.link_end.proofs.Heard.{heard_one, heard_two}
use Rattle.link_end.proofs.hear.hear_packet.Goals as goal

pub returns-in_ok-bad-in-One : goal.returns-in_ok-bad-in-One
returns-in_ok-bad-in-One c = λ v past m handed h.
    heard_one c.hear_recs.new.book (map news_value c.args.news.now.items) (map news_value c.hear_recs.new.news.items)
    v past m handed c.args.packet.now c.as_slice.result.now c.in_ok-bad-in-One.bad
    (sym h.version ∙ sym c.in-One.ensures) c.as_slice.ensures (c.in_ok-bad-in-One.ensures v past m [] handed h)

pub returns-in_ok-bad-in-Two-2 : goal.returns-in_ok-bad-in-Two-2
returns-in_ok-bad-in-Two-2 c = λ v past m handed h.
    heard_two c.hear_head.new.book c.hear_recs-in-Two.new.book (map news_value c.args.news.now.items)
    (map news_value c.hear_head.new.news.items) (map news_value c.hear_recs-in-Two.new.news.items)
    v past m handed c.args.packet.now c.as_slice-in-Two.result.now c.in_ok-bad-in-Two-2.bad c.in_ok-bad-in-Two.field-0
    (sym h.version ∙ sym c.in-Two.ensures) c.as_slice-in-Two.ensures (c.in_ok-bad-in-Two.ensures v past m [] handed h)
    c.in_default.is
    (λ keeps. c.in_ok-bad-in-Two-2.ensures v past m (Told (head_of c.args.packet.now.head) ∷ []) handed keeps)
