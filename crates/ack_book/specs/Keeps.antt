-- How what a book keeps follows from all that the end did.
use Rattle.std.specs.Prelude.{◌≡◌, ℕ, ◌+◌, ◌-◌, ◌%◌, ◌<◌, ◌≤◌, false, slice_index_or, if◌then◌else◌}
use Rattle.protocol_model.specs.declared.Version.{Version}
use Rattle.protocol_model.specs.declared.Version.TheVariants.{Two}
use Rattle.protocol_model.specs.Search.{is_among}
use Rattle.connection_model.specs.Feed.{Past}
use Rattle.connection_model.specs.Fates.{taken_of, top_of, owed_of, moved_of, high_of, last_sent, top_when}
use Rattle.ack_book.specs.Book.{Book, fates_kept}
use Rattle.ack_book.specs.History.{bit_in}
use Rattle.protocol_model.specs.Limits.{unresolved_limit}

-- the book is right about all that the end did: each number that it keeps, in version Two which of
-- the last 256 numbers were taken, the fates of the last 8,192 packets that are resolved, and what
-- each unresolved one told
pub record Keeps (book : Book) (v : Version) (past : Past) : Type 0 where
  pub version : book.version ≡ v
  pub sent : book.last_sent ≡ last_sent past
  pub high : book.high ≡ high_of past
  pub top : book.top ≡ top_of past
  pub base : book.base ≡ top_when past (high_of past)
  pub owed : book.owed ≡ owed_of v past
  pub history : v ≡ Two → (i : ℕ) → i < 256
      → bit_in book.history i ≡ (if is_among (top_of past - i) (taken_of past) then 1 else 0)
  pub fates : (n : ℕ) → n ≤ high_of past → high_of past < n + fates_kept
      → slice_index_or book.arrived (n % fates_kept) false ≡ is_among n (moved_of past)
  pub told : (n : ℕ) → high_of past < n → n ≤ last_sent past
      → slice_index_or book.told (n % unresolved_limit) 0 ≡ top_when past n
