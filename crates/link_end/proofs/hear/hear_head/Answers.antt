use Rattle.std.proofs.Common.{◌≡◌, ◌∙◌, ◌+◌, ◌-◌, ◌∷◌, ◌++◌, ℕ, List, map, filter, ap, refl, arith}
use Rattle.std.specs.List.{range_with_len}
use Rattle.protocol_model.specs.Search.{is_among}
use Rattle.connection_model.specs.Feed.{Past, Took, Told}
use Rattle.connection_model.specs.Fates.{moved_of, high_of}
use Rattle.bit_io.specs.HeadOf.{head_of}
use Rattle.ack_book.specs.Answers.{names_unsent}
use Rattle.link_end.specs.News.{News, moves_from}
use Rattle.link_end.specs.Answers.{news_value}
use Rattle.link_end.proofs.Heard.{high_grows, moves_told, not_unsent, head_heard, head_bad}
use Rattle.link_end.proofs.hear.hear_head.Goals as goal

pub tell_moves-requires-clause-from : goal.tell_moves-requires-clause-from
tell_moves-requires-clause-from c =
    let s = c.requires.stands in
    let before : Past = Took s.2 s.3 s.4 ∷ s.1 in
    let from : c.high-from.result ≡ high_of before = c.high-from.ensures.number s.0 before s.5 in
    let keeps = c.in-Ok.ensures.keeps s.0 s.1 s.2 s.3 s.4 s.5 in
    omega (arith, from, keeps.high, high_grows s.1 s.2 s.3 s.4 (Told (head_of c.args.head)))

pub returns-in_ok-tell_moves-in-Ok : goal.returns-in_ok-tell_moves-in-Ok
returns-in_ok-tell_moves-in-Ok c = λ v past m told handed h.
    let head = head_of c.args.head in
    let before : Past = Took m told handed ∷ past in
    let later : Past = Took m (Told head ∷ told) handed ∷ past in
    let keeps = c.in-Ok.ensures.keeps v past m told handed h in
    let old : List News = map news_value c.args.news.now.items in
    head_heard c.take_head.new.self v past m told handed head old (map news_value c.tell_moves.new.news.items)
    (not_unsent (names_unsent before head) (c.in-Ok.ensures.bad v before h).1)
    (c.in_ok-tell_moves-in-Ok.ensures v later keeps
    ∙ ap (λ (k : ℕ). old
    ++ moves_from k (filter (λ n. is_among n (moved_of later)) (range_with_len (k + 1) (high_of later - k))))
    (c.high-from.ensures.number v before h)
    ∙ ap (λ (l : List News). old ++ l) (moves_told past m told handed head))
    keeps

pub returns-in-Err : goal.returns-in-Err
returns-in-Err c = λ v past m told handed h.
    let before : Past = Took m told handed ∷ past in
    let values = c.in-Err.ensures.values v before h in
    head_bad c.take_head.new.self v past m told handed (head_of c.args.head) (map news_value c.args.news.now.items)
    c.in-Err.bad
    ((c.in-Err.ensures.bad v before h).0 refl) values.0 values.1
