use Rattle.std.proofs.Common.{map}
use Rattle.protocol_model.specs.declared.Version.{Version}
use Rattle.protocol_model.specs.Search.{is_among}
use Rattle.connection_model.specs.Feed.{Past}
use Rattle.connection_model.specs.Fates.{moved_of}
use Rattle.ack_book.specs.Keeps.{Keeps}
use Rattle.link_end.specs.Answers.{news_value}
use Rattle.link_end.proofs.Heard.{Telling}
use Rattle.link_end.proofs.hear.tell_moves.Given as goal

abbrev pub invariant-loop-number : goal.invariant-loop-number
invariant-loop-number l =
    (v : Version) (past : Past) → Keeps l.book v past
    → Telling (λ n. is_among n (moved_of past)) l.from l.number l.last (map news_value l.fn.news.items)
    (map news_value l.news.items)
