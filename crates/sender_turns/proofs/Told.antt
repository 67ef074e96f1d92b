-- What is told of an open that is to be made.
use Rattle.std.proofs.Common.{◌≡◌, ◌≢◌, ◌∙◌, ℕ, ◌+◌, ◌<◌, ◌≤◌, ◌==◌, List, [], ◌∷◌, length, Bool, true, false, not, ◌||◌, nat_lt, refl, sym, ap, subst, arith, Option, Some, None, if◌then◌else◌}
use Rattle.std.proofs.lemmas.Bool.{false≢true, eq-eqb, ne_eqb}
use Rattle.protocol_model.specs.declared.Version.{Version}
use Rattle.protocol_model.specs.declared.Version.TheVariants.{One, Two}
use Rattle.protocol_model.specs.Limits.{channels_one, payload_bits, part_limit}
use Rattle.protocol_model.specs.Packet.{channel_limit}
use Rattle.protocol_model.specs.Payload.{Message, Opens, message_bits, parts_of, part_count}
use Rattle.protocol_model.specs.Search.{is_among}
use Rattle.protocol_model.specs.Value.{Class, Pair, Segment}
use Rattle.protocol_model.specs.World.{class_at}
use Rattle.connection_model.specs.Bunches.{made_count, room, span, has_exports}
use Rattle.connection_model.specs.Exports.{exports_segment, needed_segments}
use Rattle.connection_model.specs.Feed.{End, Past}
use Rattle.connection_model.specs.Items.{open_message}
use Rattle.connection_model.specs.Pack.{Packing, has_room, part_item}
use Rattle.connection_model.specs.State.{free_index, index_of}
use Rattle.class_layout.specs.Tables.{Layout, table_in}
use Rattle.link_end.specs.Packs.{sent_now}
use Rattle.bunch_packing.specs.Opens.{IsOpenOf, open_first}
use Rattle.payload_laws.proofs.Bounds.{parts_most}
use Rattle.sender_records.specs.Handles.{pairs_of}
use Rattle.sender_steps.specs.declared.sight.Seen.{Seen as SeenValue}
use Rattle.sender_steps.specs.Sights.{seen_value}
use Rattle.sender_turns.specs.Ticking.{IsToKeep, IsLast}

-- an index of version one has a spelling in both
pub low_in : (v : Version) (ch : ℕ) → ch < channels_one → ch < channel_limit v
low_in One ch low = omega (arith, low)
low_in Two ch low = omega (arith, low)

-- a payload that may be sent has at most ten parts
pub few_parts : (n : ℕ) → n ≤ payload_bits → part_count n ≤ part_limit
few_parts n most = parts_most n part_limit (omega arith) (omega (arith, most))

-- an open exports segments exactly where there are guids of such
pub names_some : (exports : List Segment) (actor : ℕ) (class : Class) (values : List Pair) (guids : List ℕ)
    → ((g : ℕ) → exports_segment g (Opens exports actor class values) ≡ is_among g guids)
    → has_exports (Opens exports actor class values) ≡ not (length guids == 0)
names_some [] actor class values [] told = refl
names_some [] actor class values (g ∷ guids) told =
    absurd (false≢true (told g ∙ ap (λ (b : Bool). b || is_among g guids) (eq-eqb g g refl)))
names_some (s ∷ exports) actor class values [] told =
    absurd (false≢true (sym (told s.guid)
    ∙ ap (λ (b : Bool). b || exports_segment s.guid (Opens exports actor class values)) (eq-eqb s.guid s.guid refl)))
names_some (s ∷ exports) actor class values (g ∷ guids) told =
    sym (ap not (ne_eqb (length (g ∷ guids)) 0 (λ e. absurd (omega (arith, e)))))

-- so is the open that is spelled with these guids
pub spelled_is : (layout : Layout) (seen : SeenValue) (past : Past) (guids : List ℕ) (payload : List Bool)
    → message_bits (open_message past (seen_value layout seen)) ≡ payload
    → ((g : ℕ) → exports_segment g (open_message past (seen_value layout seen)) ≡ is_among g guids)
    → IsOpenOf (open_message past (seen_value layout seen)) (not (length guids == 0)) payload
spelled_is layout seen past guids payload bits told = record {
  bits = bits;
  opens = refl;
  names = names_some (needed_segments past (class_at (table_in layout) seen.class)) seen.actor
      (class_at (table_in layout) seen.class) (pairs_of seen.values) guids told;
}

-- the number of the first bunch
first_is : (end : End) (p : Packing) (ch : ℕ) (m : Message) (n : ℕ) → Some n ≡ open_first end p ch m
    → n ≡ made_count p.past ch + 1
first_is end p ch m n =
    by (nat_lt (room p.past ch) (parts_of m)) (has_room end p (part_item ch (made_count p.past ch + 1) m 0))
  where
    by : (over fits : Bool) → Some n ≡ (let o : Option ℕ = if over || not fits then None
        else Some (made_count p.past ch + 1) in o) → n ≡ made_count p.past ch + 1
    by true fits e = absurd (let no : Some n ≡ (let o : Option ℕ = None in o) = e in cc)
    by false false e = absurd (let no : Some n ≡ (let o : Option ℕ = None in o) = e in cc)
    by false true e = cc

-- what is to be kept of an open on a free index
pub to_keep : (end : End) (p : Packing) (m : Message) (ch : ℕ) (first : Option ℕ) (count : ℕ) (guids : List ℕ)
    (last : Option ℕ) → ch ≡ free_index p.past → 1 ≤ ch → ch < channels_one → span (sent_now p) ch ≡ 0
    → ((a : ℕ) → index_of (sent_now p) a ≢ Some ch) → first ≡ open_first end p ch m → count ≡ parts_of m
    → ((g : ℕ) → exports_segment g m ≡ is_among g guids) → IsLast first count last
    → IsToKeep end p m ch last guids
to_keep end p m ch None count guids None free some low clear unheld first all told at =
    subst (λ (k : ℕ). open_first end p k m ≡ None) free (sym first)
to_keep end p m ch None count guids (Some last) free some low clear unheld first all told at =
    absurd (let no : Some last ≡ (let x : Option ℕ = None in x) = at in cc)
to_keep end p m ch (Some n) count guids None free some low clear unheld first all told at = absurd at
to_keep end p m ch (Some n) count guids (Some last) free some low clear unheld first all told at =
    let number : n ≡ made_count p.past ch + 1 = first_is end p ch m n first in
    record {
      channel = free;
      some = some;
      low = low;
      clear = clear;
      free = unheld;
      made = subst (λ (k : ℕ). open_first end p k m ≡ Some (made_count p.past k + 1)) free
          (sym first ∙ ap (λ (k : ℕ). let x : Option ℕ = Some k in x) number);
      last = omega (arith, at, number, all);
      guids = told;
    }
