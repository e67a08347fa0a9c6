-- Encode, test and read data, each the reverse of the other, for every book within the limits (demand 2): the transform undoes itself, and
-- so filling, obeying and the free bits of proofs/Fill.antt say it. Assumes nothing.
use mathlib.Core.Path.{◌≡◌, refl, sym, ap, ◌∙◌, subst, subst⁻¹}
use mathlib.Core.List.{List, []}
use mathlib.Core.Logic.{◌↔◌}
use Prim.Native.Nat.{ℕ, ◌^◌}
use native.Mathlib.Omega.{arith}
use lib.ListN.{length}
use lib.Dec.{T}
use Rattle.laws.specs.Lists.{All}
use Rattle.polar.specs.Bits.{Bit}
use Rattle.polar.specs.Transform.{transform}
use Rattle.polar.proofs.Transform.{transform-length, transform-bits, transform-twice}
use Rattle.codebook.specs.Book.{Book, free_count}
use Rattle.codebook.specs.Limits.{Valid}
use Rattle.codec.specs.Code.{fill, free_bits, obeys_all, encode, in_code, read_data}
use Rattle.codec.proofs.Fill.{After, fill-after, fill-obeys, fill-free, obeys-fill, free-length, free-bits}

-- the bits u of the data, and that the word of the data turns back into them
module _ (B : Book) (ds : List ℕ) (ok : Valid B) (h : All Bit ds) where
  filled : After [] (length B.kinds) (fill [] B.kinds ds)
  filled = fill-after [] B.kinds ds (unfold All in tt) h

  filled-length : length (fill [] B.kinds ds) ≡ 2 ^ B.m
  filled-length = omega (arith, filled.size, ok.indices)

  filled-back : transform B.m (encode B ds) ≡ fill [] B.kinds ds
  unfolding encode
  filled-back = transform-twice B.m (fill [] B.kinds ds) filled-length filled.bits

-- ---- words and data

pub encode-word : (B : Book) (ds : List ℕ) → Valid B → All Bit ds → (length (encode B ds) ≡ 2 ^ B.m) × All Bit (encode B ds)
unfolding encode
encode-word B ds ok h =
    let u : List ℕ = fill [] B.kinds ds in
    (transform-length B.m u (filled-length B ds ok h), transform-bits B.m u (filled B ds ok h).bits)

pub read-data : (B : Book) (c : List ℕ) → Valid B → length c ≡ 2 ^ B.m → All Bit c →
    (length (read_data B c) ≡ free_count B.kinds) × All Bit (read_data B c)
unfolding read_data
read-data B c ok e h =
    let u : List ℕ = transform B.m c in
    (free-length B.kinds u (transform-length B.m c e ∙ sym ok.indices), free-bits B.kinds u (transform-bits B.m c h))

-- ---- each the reverse of the other

pub read-encode : (B : Book) (ds : List ℕ) → Valid B → length ds ≡ free_count B.kinds → All Bit ds → read_data B (encode B ds) ≡ ds
unfolding read_data
read-encode B ds ok e h = ap (free_bits B.kinds) (filled-back B ds ok h) ∙ fill-free [] B.kinds ds (unfold All in tt) h e

pub encode-in : (B : Book) (ds : List ℕ) → Valid B → length ds ≡ free_count B.kinds → All Bit ds → T (in_code B (encode B ds))
unfolding in_code
encode-in B ds ok e h =
    subst⁻¹ (λ (u : List ℕ). T (obeys_all u 0 B.kinds)) (filled-back B ds ok h) (fill-obeys [] B.kinds ds (unfold All in tt) h ok.kinds)

pub in-encode : (B : Book) (c : List ℕ) → Valid B → length c ≡ 2 ^ B.m → All Bit c → T (in_code B c) → encode B (read_data B c) ≡ c
unfolding encode read_data in_code
in-encode B c ok e h t =
    let u : List ℕ = transform B.m c in
    let l : length u ≡ 2 ^ B.m = transform-length B.m c e in
    let a : After [] (length B.kinds) u = record { front = refl; size = omega (arith, ok.indices); bits = transform-bits B.m c h } in
    ap (transform B.m) (obeys-fill [] B.kinds u a ok.kinds t) ∙ transform-twice B.m c e h

pub in-iff : (B : Book) (c : List ℕ) → Valid B → length c ≡ 2 ^ B.m → All Bit c → T (in_code B c) ↔ (encode B (read_data B c) ≡ c)
in-iff B c ok e h =
    let (l, k) = read-data B c ok e h in
    (in-encode B c ok e h, λ p. subst (λ (w : List ℕ). T (in_code B w)) p (encode-in B (read_data B c) ok l k))
