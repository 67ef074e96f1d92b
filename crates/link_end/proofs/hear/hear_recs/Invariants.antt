use Rattle.std.proofs.Common.{ℕ, List, ◌∷◌, map, take, None}
use Rattle.protocol_model.specs.declared.Version.{Version}
use Rattle.connection_model.specs.Feed.{Past, Took, Entry, Delivered}
use Rattle.ack_book.specs.Keeps.{Keeps}
use Rattle.link_end.specs.Answers.{news_value}
use Rattle.link_end.specs.Heard.{Hears, entries_of}
use Rattle.link_end.proofs.hear.hear_recs.Given as goal

abbrev pub invariant-loop-rec : goal.invariant-loop-rec
invariant-loop-rec l =
    (v : Version) (past : Past) (m : ℕ) (told : List Entry) (handed : List Delivered)
    → Keeps l.fn.book v (Took m told handed ∷ past)
    → Hears l.book (map news_value l.fn.news.items) (map news_value l.news.items) v past m told handed
    (entries_of (take l.rec-index l.recs)) None
