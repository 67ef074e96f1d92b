use Rattle.std.proofs.Common.{ap, ◌∙◌, ◌≡◌, ◌-◌, ◌<◌, arith, length, ℕ, List}
use Rattle.std.proofs.lemmas.List.{length-take-le}
use Rattle.circular_buffer.specs.Buffer.{Buffer}
use Rattle.shadow_changes.specs.declared.noted.Noted.{Noted}
use Rattle.shadow_changes.proofs.Falling.{some_last, merged_last, last_noted, last_falling}
use Rattle.shadow_changes.proofs.lists.merge_oldest.Goals as goal

pub unwrap-older-requires : goal.unwrap-older-requires
unwrap-older-requires c = some_last c.args.lists.now.items c.pop_back.result (omega arith) c.pop_back.ensures.value

pub unwrap-newer-requires : goal.unwrap-newer-requires
unwrap-newer-requires c =
    let xs = c.args.lists.now.items in
    let items : Buffer Noted → List Noted = λ b. b.items in
    let few : length c.pop_back.new.self.items ≡ length xs - 1 = ap length (ap items c.pop_back.ensures.items)
    ∙ length-take-le (length xs - 1) xs (omega arith) in
    let some : 0 < length c.pop_back.new.self.items = omega (arith, few) in
    some_last c.pop_back.new.self.items c.pop_back-2.result some c.pop_back-2.ensures.value

pub returns-clause-noted : goal.returns-clause-noted
returns-clause-noted c = λ count newest falls h.
    let xs = c.args.lists.now.items in
    let items : Buffer Noted → List Noted = λ b. b.items in
    let capacity : Buffer Noted → ℕ = λ b. b.capacity in
    let m = merged_last xs c.pop_back.new.self.items c.pop_back-2.new.self.items c.push_back.new.self.items
    c.unwrap-newer.result c.unwrap-older.result c.in_ok-both.both c.pop_back.result c.pop_back-2.result c.pop_back-2.new.self.capacity
    (omega arith) c.pop_back.ensures.value (ap items c.pop_back.ensures.items) c.unwrap-older.ensures
    c.pop_back-2.ensures.value (ap items c.pop_back-2.ensures.items) c.unwrap-newer.ensures
    (ap capacity c.pop_back-2.ensures.items ∙ ap capacity c.pop_back.ensures.items ∙ c.requires)
    (ap items c.push_back.ensures.items) in
    last_noted xs c.push_back.new.self.items c.unwrap-newer.result c.unwrap-older.result c.in_ok-both.both count newest h m falls
    (λ both. c.in_ok-both.ensures.noted count newest both h)

pub returns-clause-falling : goal.returns-clause-falling
returns-clause-falling c = λ count newest falls.
    let xs = c.args.lists.now.items in
    let items : Buffer Noted → List Noted = λ b. b.items in
    let capacity : Buffer Noted → ℕ = λ b. b.capacity in
    let m = merged_last xs c.pop_back.new.self.items c.pop_back-2.new.self.items c.push_back.new.self.items
    c.unwrap-newer.result c.unwrap-older.result c.in_ok-both.both c.pop_back.result c.pop_back-2.result c.pop_back-2.new.self.capacity
    (omega arith) c.pop_back.ensures.value (ap items c.pop_back.ensures.items) c.unwrap-older.ensures
    c.pop_back-2.ensures.value (ap items c.pop_back-2.ensures.items) c.unwrap-newer.ensures
    (ap capacity c.pop_back-2.ensures.items ∙ ap capacity c.pop_back.ensures.items ∙ c.requires)
    (ap items c.push_back.ensures.items) in
    last_falling xs c.push_back.new.self.items c.unwrap-newer.result c.unwrap-older.result c.in_ok-both.both count newest m
    (λ k. c.in_ok-both.ensures.falling count k) falls
