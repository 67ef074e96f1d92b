-- The end of a packet's content, as the last byte's leading zeros tell it.
use Rattle.std.proofs.Common.{◌≡◌, ℕ, suc, ◌<◌, ◌≤◌, ◌+◌, ◌-◌, ◌*◌, ◌^◌, ◌==◌, List, [], ◌∷◌, false, Some, sym, length, arith}
use Rattle.std.specs.Prelude.{slice_index_or, slice_get}
use Rattle.std.specs.Int.Count.{count_leading_zeros}
use Rattle.std.proofs.lemmas.Bool.{ne_eqb}
use Rattle.std.proofs.lemmas.Option.{get_or_from_slice_get}
use Rattle.std.proofs.lemmas.Nat.{leading_top}
use Rattle.protocol_laws.proofs.Content.{content_at, packet_of-content}
use Rattle.packet_codec.specs.Refused.{EndsAt}

ends_behind : (bytes : List ℕ) (last j z : ℕ) → 1 ≤ length bytes → length bytes ≤ 1024 → slice_index_or bytes (length bytes - 1) 0 ≡ last → (last == 0) ≡ false → z + suc j ≡ 8 → 2 ^ j ≤ last → last < 2 ^ suc j → EndsAt bytes (8 * length bytes - 1 - z)
ends_behind bytes last j z least most is some whole low high = record {
  content = content_at bytes j z least whole (rw is low) (rw is high);
  decides = λ version. packet_of-content version bytes least most (rw is some);
  within = omega arith;
  ended = record { some = least; most = most; last = rw is some };
}

-- what the last byte says of the content's end
pub content_ends : (bytes : List ℕ) (last : ℕ) → Some last ≡ slice_get bytes (length bytes - 1) → (last ≡ 0 → ⊥) → last < 256 → length bytes ≤ 1024 → EndsAt bytes (8 * length bytes - 1 - count_leading_zeros 8 last)
content_ends [] last e some fits most = cc
content_ends (byte ∷ bytes) last e some fits most =
    let all : List ℕ = byte ∷ bytes in
    let least : 1 ≤ length all = omega arith in
    let is : slice_index_or all (length all - 1) 0 ≡ last = get_or_from_slice_get all (length all - 1) last 0 (sym e) in
    let top = leading_top 8 last (omega (arith, some)) fits in
    ends_behind all last top.0 (count_leading_zeros 8 last) least most is (ne_eqb last 0 some) top.1 top.2 top.3
