-- What is called for of an actor, by the entry that a sight has of it.
use Rattle.std.proofs.Common.{◌≡◌, ◌∙◌, ℕ, Bool, true, false, cond, ◌&&◌, ◌||◌, nat_le, ap, sym, refl, Option, Some, None, option_map, unwrap_or, List}
use Rattle.protocol_model.specs.Sight.{Seen}
use Rattle.connection_model.specs.Feed.{Past, sight_of, seen_in}
use Rattle.connection_model.specs.State.{state_of, is_open, is_asleep}
use Rattle.connection_model.specs.Pack.{idle_ticks}
use Rattle.class_layout.specs.Tables.{Layout}
use Rattle.sender_steps.specs.declared.closing.Close.{Close}
use Rattle.sender_steps.specs.declared.closing.Close.TheVariants as close
use Rattle.sender_steps.specs.declared.sight.Seen.{Seen as SeenValue}
use Rattle.sender_steps.specs.Closing.{close_called, IsEntry, IsFlush}
use Rattle.sender_steps.specs.Sights.{seen_value}
use Rattle.sender_steps.proofs.Folds.{seen_of}

-- the entry is of this actor
pub entry_is : (layout : Layout) (o : Option SeenValue) (sight : List Seen) (a : ℕ)
    → option_map (seen_value layout) o ≡ seen_in sight a → IsEntry a o
entry_is layout None sight a e = tt
entry_is layout (Some s) sight a e = seen_of sight a (seen_value layout s) (sym e)

-- an actor that isn't seen isn't put to sleep
unseen : (b1 x b3 : Bool) → cond (b1 && (false || x)) (Some close.Plain)
    (cond false (Some close.Dormant) (cond (b3 && false) (Some close.Gone) None)) ≡ Some close.Dormant → ⊥
unseen true true b3 e = (let no : (let o : Option Close = Some close.Plain in o) ≡ Some close.Dormant = e in cc)
unseen true false true e = (let no : (let o : Option Close = None in o) ≡ Some close.Dormant = e in cc)
unseen true false false e = (let no : (let o : Option Close = None in o) ≡ Some close.Dormant = e in cc)
unseen false x true e = (let no : (let o : Option Close = None in o) ≡ Some close.Dormant = e in cc)
unseen false x false e = (let no : (let o : Option Close = None in o) ≡ Some close.Dormant = e in cc)

-- its flush number is that of the last sight
pub flush_is : (past : Past) (a : ℕ) (layout : Layout) (o : Option SeenValue) (c : Close)
    → option_map (seen_value layout) o ≡ seen_in (sight_of past) a
    → close_called past a (option_map (seen_value layout) o) ≡ Some c
    → IsFlush past a c (unwrap_or (option_map (λ s. s.flush) o) 0)
flush_is past a layout o close.Plain e called = tt
flush_is past a layout o close.Gone e called = tt
flush_is past a layout None close.Dormant e called = absurd (unseen (is_open (state_of past a))
    (nat_le 5 (idle_ticks past a)) (is_asleep (state_of past a)) called)
flush_is past a layout (Some s) close.Dormant e called = ap (λ (x : Option Seen). option_map
    (λ (seen : Seen). seen.flush) x) (sym e)
