use Rattle.std.proofs.Common.{◌∙◌, ◌++◌, ◌∷◌, [], List, Bool, map, ap, sym, if◌then◌else◌}
use Rattle.std.proofs.lemmas.List.{append-nil}
use Rattle.link_end.specs.News.{News, Moves}
use Rattle.link_end.specs.Answers.{news_value}
use Rattle.link_end.proofs.Heard.{fate_is}
use Rattle.link_end.proofs.hear.tell_one.Goals as goal

pub returns-in-Open-clause-last : goal.returns-in-Open-clause-last
returns-in-Open-clause-last c = λ v past h.
    ap (λ (b : Bool). if b then c.args.number else c.args.last)
    (fate_is past c.args.number _ (c.in-Open.ensures v past h))

pub returns-in-Open-clause-news : goal.returns-in-Open-clause-news
returns-in-Open-clause-news c = λ v past h.
    let before : List News = map news_value c.args.news.now.items in
    sym (append-nil before)
    ∙ ap (λ (b : Bool). before
    ++ (if b then Moves c.args.last c.args.number ∷ [] else []))
    (fate_is past c.args.number _ (c.in-Open.ensures v past h))
