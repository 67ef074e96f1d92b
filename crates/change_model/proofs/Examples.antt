-- Worked samples that the checker computes.
use Rattle.std.specs.Prelude.{◌≡◌, refl, List, [], ◌∷◌, Some, pos, true, false}
use Rattle.change_model.specs.Changes.{Sample, is_noted, noted_tick, changes_since}

-- a value that is 1, then 2, then 1 again, and then stays
one : Sample
one = record { tick = 1; values = pos 1 ∷ [] }

two : Sample
two = record { tick = 2; values = pos 2 ∷ [] }

three : Sample
three = record { tick = 3; values = pos 1 ∷ [] }

four : Sample
four = record { tick = 4; values = pos 1 ∷ [] }

-- it is noted three times
first_noted : is_noted one [] 0 ≡ true
first_noted = refl

second_noted : is_noted two (one ∷ []) 0 ≡ true
unfolding one two
second_noted = refl

third_noted : is_noted three (two ∷ one ∷ []) 0 ≡ true
unfolding one two three
third_noted = refl

fourth_not_noted : is_noted four (three ∷ two ∷ one ∷ []) 0 ≡ false
unfolding one two three four
fourth_not_noted = refl

-- it is due for who was served in tick 2, and not for who was served in tick 3
due_since_two : noted_tick (four ∷ three ∷ two ∷ one ∷ []) 2 0 ≡ Some 3
unfolding one two three four
due_since_two = refl

none_since_three : changes_since (four ∷ three ∷ two ∷ one ∷ []) 3 ≡ []
unfolding one two three four
none_since_three = refl

-- x changed in tick 2 and hp in tick 3: handles 1 and 4, since handle 3 is the role's
both : List Sample
both = record { tick = 3; values = pos 5 ∷ pos 0 ∷ pos 90 ∷ [] }
    ∷ record { tick = 2; values = pos 5 ∷ pos 0 ∷ pos 100 ∷ [] }
    ∷ record { tick = 1; values = pos 0 ∷ pos 0 ∷ pos 100 ∷ [] }
    ∷ []

both_changed : changes_since both 1 ≡ record { handle = 1; tick = 2 } ∷ record { handle = 4; tick = 3 } ∷ []
unfolding both
both_changed = refl
