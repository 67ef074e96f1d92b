-- Lines of a file, one after another.
use Rattle.std.proofs.Common.{◌≡◌, ℕ, zero, suc, ◌+◌, ◌<◌, get_or, List, [], ◌∷◌, ◌++◌, length, Bool, true, false, cond, Option, Some, None, Result, Ok, Err, refl, sym, ◌∙◌, ap, append_assoc, append-nil, arith}
use Rattle.std.specs.Borrow.{Bor}
use Rattle.std.proofs.lemmas.Bool.Decides.{nat_tests}
use Rattle.std.specs.List.{flat_map}
use Rattle.std.specs.Bool.{◌==◌}
use Rattle.protocol_model.specs.declared.Version.{Version}
use Rattle.protocol_model.specs.Packet.{Packet}
use Rattle.script_model.specs.Lines.{Text}
use Rattle.script_model.specs.Script.{pieces, add_to_first}
use Rattle.script_spelling.specs.Fields.{is_nil, pieces_after}
use Rattle.script_spelling.proofs.Pieces.{pieces-some}
use Rattle.packet_text.specs.Faults.{Shows, IsShown}
use Rattle.program_model.specs.Shown.{LineFault, without_empty_last, file_lines, packet_in, cons_ok, packets_from, packets_of, packet_text, show_text}

-- packets before those that are still to be read
abbrev pub after_done : List Packet → Result (List Packet) (ℕ × LineFault) → Result (List Packet) (ℕ × LineFault)
after_done [] r = r
after_done (p ∷ ps) r = cons_ok p (after_done ps r)

-- one packet more
more-done : (done : List Packet) (p : Packet) (r : Result (List Packet) (ℕ × LineFault))
    → after_done (done ++ p ∷ []) r ≡ after_done done (cons_ok p r)
more-done [] p r = refl
more-done (q ∷ done) p r = ap (λ s. cons_ok q s) (more-done done p r)

none-left : (done : List Packet) → after_done done (Ok []) ≡ Ok done
none-left [] = refl
none-left (p ∷ done) = ap (λ s. cons_ok p s) (none-left done)

bad-left : (done : List Packet) (bad : ℕ × LineFault) → after_done done (Err bad) ≡ Err bad
bad-left [] bad = refl
bad-left (p ∷ done) bad = ap (λ s. cons_ok p s) (bad-left done bad)

-- a part of the file is shown: its packets' text, and the lines that are left
pub record IsPart (version : Version) (file : List ℕ) (number : ℕ) (rest : List ℕ) (text : Text) : Type 0 where
  pub done : List Packet
  pub shown : text ≡ show_text version done
  pub left : after_done done (packets_from version number (file_lines rest)) ≡ packets_of version file

-- before the first line
pub at_first : (version : Version) (file : List ℕ) → IsPart version file 1 file []
at_first version file = record { done = []; shown = refl; left = refl }

-- text of packets, and of one more
show-more : (version : Version) (done : List Packet) (p : Packet)
    → show_text version (done ++ p ∷ []) ≡ show_text version done ++ packet_text version p
show-more version [] p = append-nil (packet_text version p)
show-more version (q ∷ done) p =
    ap (λ t. packet_text version q ++ t) (show-more version done p)
    ∙ sym (append_assoc (packet_text version q) (show_text version done) (packet_text version p))

-- a line that is read
pub one_more : (version : Version) (file rest later : List ℕ) (number : ℕ) (line : Text) (text now : Text) (p : Packet)
    → IsPart version file number rest text → file_lines rest ≡ line ∷ file_lines later
    → packet_in version line ≡ Ok p → now ≡ text ++ packet_text version p
    → IsPart version file (number + 1) later now
one_more version file rest later number line text now p part lines read told = record {
  done = part.done ++ p ∷ [];
  shown = told ∙ ap (λ t. t ++ packet_text version p) part.shown ∙ sym (show-more version part.done p);
  left =
      more-done part.done p (packets_from version (number + 1) (file_lines later))
      ∙ ap (λ r. after_done part.done r) (sym (here version number line (file_lines later) p read))
      ∙ ap (λ ls. after_done part.done (packets_from version number ls)) (sym lines)
      ∙ part.left;
}
  where
    here : (version : Version) (number : ℕ) (line : Text) (lines : List Text) (p : Packet) → packet_in version line ≡ Ok p
        → packets_from version number (line ∷ lines) ≡ cons_ok p (packets_from version (number + 1) lines)
    here version number line lines p read = rw (read, packets_from) refl

-- a line that isn't
pub stopped : (version : Version) (file rest later : List ℕ) (number : ℕ) (line : Text) (text : Text) (fault : LineFault)
    → IsPart version file number rest text → file_lines rest ≡ line ∷ file_lines later
    → packet_in version line ≡ Err fault → packets_of version file ≡ Err (number, fault)
stopped version file rest later number line text fault part lines read =
    sym part.left ∙ ap (λ ls. after_done part.done (packets_from version number ls)) lines
    ∙ ap (λ r. after_done part.done r) (here version number line (file_lines later) fault read)
    ∙ bad-left part.done (number, fault)
  where
    here : (version : Version) (number : ℕ) (line : Text) (lines : List Text) (fault : LineFault)
        → packet_in version line ≡ Err fault → packets_from version number (line ∷ lines) ≡ Err (number, fault)
    here version number line lines fault read = rw (read, packets_from) refl

-- no line is left
pub all_read : (version : Version) (file : List ℕ) (number : ℕ) (text : Text) → (part : IsPart version file number [] text)
    → packets_of version file ≡ Ok part.done
all_read version file number text part = sym part.left ∙ none-left part.done

-- ---- the next line

-- the last piece of some text isn't empty
last-some : (b : ℕ) (bytes : List ℕ) (line : Text) → pieces 10 (b ∷ bytes) ≡ line ∷ []
    → without_empty_last (line ∷ []) ≡ line ∷ []
last-some b bytes [] h = absurd (by_test (b == 10) (pieces 10 bytes) (pieces-some 10 bytes) h)
  where
    by_test : (t : Bool) (rest : List Text) → is_nil rest ≡ false → cond t ([] ∷ rest) (add_to_first b rest) ≡ [] ∷ [] → ⊥
    by_test true [] some h = absurd (cc some)
    by_test true (p ∷ ps) some h = cc h
    by_test false [] some h = cc h
    by_test false (p ∷ ps) some h = cc h
last-some b bytes (c ∷ cs) h = refl

-- behind a newline
pub next_line : (rest later : List ℕ) (line : Text) → pieces 10 rest ≡ line ∷ pieces 10 later
    → file_lines rest ≡ line ∷ file_lines later
next_line rest later line h = ap (λ ps. without_empty_last ps) h ∙ by_more (pieces 10 later) (pieces-some 10 later) line
  where
    by_more : (ps : List Text) → is_nil ps ≡ false → (line : Text)
        → without_empty_last (line ∷ ps) ≡ line ∷ without_empty_last ps
    by_more [] some line = absurd (cc some)
    by_more (p ∷ ps) some [] = refl
    by_more (p ∷ ps) some (c ∷ cs) = refl

-- the last one, without a newline
pub last_line : (rest : List ℕ) (line : Text) → 0 < length rest → pieces 10 rest ≡ line ∷ []
    → file_lines rest ≡ line ∷ file_lines []
last_line [] line some h = absurd (omega (arith, some))
last_line (b ∷ bytes) line some h = ap (λ ps. without_empty_last ps) h ∙ last-some b bytes line h

-- what is left behind a line
abbrev pub left_in : Option (Bor (List ℕ)) → List ℕ
left_in None = []
left_in (Some rest) = rest.now

-- a line that comes next, with what is left behind it
pub next_is : (rest : List ℕ) (line : Text) (later : Option (Bor (List ℕ))) → 0 < length rest
    → pieces 10 rest ≡ line ∷ pieces_after 10 later → file_lines rest ≡ line ∷ file_lines (left_in later)
next_is rest line None some h = last_line rest line some h
next_is rest line (Some later) some h = next_line rest later.now line h

-- there is a line left
pub some_left : (rest : List ℕ) → false ≡ (length rest == 0) → 0 < length rest
some_left [] h = absurd (cc h)
some_left (b ∷ bytes) h = omega arith

-- the part that is shown goes on by a line
pub goes_on : (version : Version) (file rest left : List ℕ) (number : ℕ) (line text now : Text)
    (later : Option (Bor (List ℕ))) → IsPart version file number rest text → 0 < length rest
    → pieces 10 rest ≡ line ∷ pieces_after 10 later → left ≡ left_in later
    → Shows (packet_in version line) version text now → IsPart version file (number + 1) left now
goes_on version file rest left number line text now later part some first is shows =
    one_more version file rest left number line text now shows.packet part
    (rw is (next_is rest line later some first)) shows.is shows.text

some-length : (n : ℕ) → true ≡ (n == 0) → n ≡ 0
some-length zero h = refl
some-length (suc n) h = grind (h, arith, nat_tests)

-- the whole file is shown
pub all_shown : (version : Version) (file rest : List ℕ) (number : ℕ) (text : Text) → IsPart version file number rest text
    → true ≡ (length rest == 0) → IsShown version file text
all_shown version file [] number text part h =
    record { packets = part.done; are = all_read version file number text part; shown = part.shown }
all_shown version file (b ∷ rest) number text part h = absurd (omega (arith, some-length (length (b ∷ rest)) h))

-- a word that stands at a place is the word there
pub at_place : (words : List ℕ) (i : ℕ) → i < length words
    → get_or words i 0 ≡ get_or words i (get_or words i 0)
at_place [] i h = absurd (omega (arith, h))
at_place (w ∷ words) zero h = refl
at_place (w ∷ words) (suc i) h = at_place words i (omega (arith, h))
