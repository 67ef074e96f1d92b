use Rattle.std.proofs.Common.{◌≡◌, ◌∙◌, ◌+◌, ◌-◌, ◌++◌, ℕ, map, filter, ap, arith}
use Rattle.std.specs.List.{range_with_len}
use Rattle.protocol_model.specs.Search.{is_among}
use Rattle.connection_model.specs.Fates.{moved_of, high_of}
use Rattle.link_end.specs.News.{moves_from}
use Rattle.link_end.specs.Answers.{news_value}
use Rattle.link_end.proofs.Heard.{telling_none, telling_more}
use Rattle.link_end.proofs.hear.tell_moves.Goals as goal

pub loop-number-init : goal.loop-number-init
loop-number-init c =
    λ v past h. telling_none (λ n. is_among n (moved_of past)) c.args.from (map news_value c.args.news.now.items)

pub loop-number-preserved : goal.loop-number-preserved
loop-number-preserved c = λ v past h.
    telling_more (λ n. is_among n (moved_of past)) c.args.from c.loop-number.number c.loop-number.last
    c.in_ok-last.last (map news_value c.args.news.now.items)
    (map news_value c.loop-number.news.items) (map news_value c.tell_one.new.news.items)
    (c.loop-number.invariant v past h) (omega arith)
    (c.in_ok-last.ensures.last v past h) (c.in_ok-last.ensures.news v past h)

pub returns : goal.returns
returns c = λ v past h.
    let t = c.loop-number.invariant v past h in
    let high = c.high-high.ensures.number v past h in
    let count : c.loop-number.number - (c.args.from + 1) ≡ high_of past - c.args.from = omega (arith, high) in
    t.news
    ∙ ap (λ (k : ℕ). map news_value c.args.news.now.items
    ++ moves_from c.args.from (filter (λ n. is_among n (moved_of past)) (range_with_len (c.args.from + 1) k))) count
