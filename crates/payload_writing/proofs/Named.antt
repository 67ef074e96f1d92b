-- Each segment of a table has a short name.
use Rattle.std.proofs.Common.{◌≡◌, ℕ, ◌≤◌, ◌==◌, List, [], ◌∷◌, ◌++◌, length, Bool, true, false, ◌&&◌, Some, cond, refl, sym, ◌∙◌, append_assoc, bytes_eq}
use Rattle.std.proofs.lemmas.Bool.{and_parts}
use Rattle.std.proofs.lemmas.Slice.Eq.{bytes_eq-Decides}
use Rattle.protocol_model.specs.Limits.{name_bytes}
use Rattle.protocol_model.specs.Value.{Segment}
use Rattle.table_model.specs.Facts.{IsTable}
use Rattle.table_model.specs.Rules.{Entry, guid_in, segments_of}
use Rattle.payload_laws.specs.Limits.{AreSegments}
use Rattle.payload_laws.proofs.TableFacts.{path_segments}

-- what may be exported of two paths
both : (path more : List Segment) → AreSegments path → AreSegments more → AreSegments (path ++ more)
both [] more h k = k
both (s ∷ path) more h k = (h.0, both path more h.1 k)

-- each segment behind some classes can be exported
behind : (entries before after : List Entry) → IsTable entries → entries ≡ before ++ after
    → AreSegments (segments_of after)
behind entries before [] table whole = tt
behind entries before (e ∷ after) table whole =
    both e.class.path (segments_of after) (path_segments entries before e after table whole)
    (behind entries (before ++ e ∷ []) after table (whole ∙ sym (append_assoc before (e ∷ []) after)))

-- a name that is found among such is short
found_short : (segments : List Segment) (outer g : ℕ) (name : List ℕ) → AreSegments segments
    → guid_in segments outer name ≡ Some g → length name ≤ name_bytes
found_short [] outer g name h e = absurd (cc)
found_short (s ∷ segments) outer g name h e =
    by_case (s.outer == outer && bytes_eq s.name name) refl e (λ later. found_short segments outer g name h.1 later)
  where
    by_case : (b : Bool) → (s.outer == outer && bytes_eq s.name name) ≡ b
        → cond b (Some s.guid) (guid_in segments outer name) ≡ Some g
        → (guid_in segments outer name ≡ Some g → length name ≤ name_bytes) → length name ≤ name_bytes
    by_case true test e later =
        let same : s.name ≡ name = (bytes_eq-Decides s.name name).0 (and_parts _ _ test).1 in
        let short : length s.name ≤ name_bytes = h.0.short in
        rw (sym same) short
    by_case false test e later = later e

-- and so is each name of a table
pub name_short : (entries : List Entry) (outer g : ℕ) (name : List ℕ) → IsTable entries
    → guid_in (segments_of entries) outer name ≡ Some g → length name ≤ name_bytes
name_short entries outer g name table e =
    found_short (segments_of entries) outer g name (behind entries [] entries table refl) e
