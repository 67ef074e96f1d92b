use Rattle.std.proofs.Common.{◌≡◌, ◌∙◌, ap, sym}
use Rattle.reliable_window.specs.Bits.{bit_in}
use Rattle.outgoing_channels.proofs.Sets.{none_in, none_filled, all_gaps}
use Rattle.outgoing_channels.proofs.index_set.IndexSet.new.Goals as goal

pub invariant_of-result : goal.invariant_of-result
invariant_of-result c =
    let zeros = c.in_ok-words.ensures.items_if_clones_equal (λ y h. h) in
    (ap Rattle.std.proofs.Common.length zeros, none_filled c.in_ok-words.words.items zeros, all_gaps c.in_ok-words.words.items zeros)

pub returns : goal.returns
returns c = λ i. ap (λ (xs : _). bit_in xs i) (c.in_ok-words.ensures.items_if_clones_equal (λ y h. h)) ∙ none_in 512 i
