-- Tests that hold exactly where something does: a comparison, two tests in a row, two tests of the same. Assumes nothing.
use mathlib.Core.Path.{◌≡◌, refl}
use mathlib.Core.Bool.{Bool, true, false, ◌&&◌}
use Prim.Native.Nat.{ℕ, ◌≤◌}
use lib.Dec.{T, leb, eqb, leb→le, le→leb, eqb→eq}
use Rattle.laws.proofs.Tests.{and_left, and_right, and_in, eq→eqb}

-- a test that holds exactly where P does
pub record Tells (b : Bool) (P : Type 0) : Type 0 where
  pub out : T b → P
  pub back : P → T b

pub tells-le : (a b : ℕ) → Tells (leb a b) (a ≤ b)
tells-le a b = record { out = leb→le a b; back = le→leb a b }

pub tells-eq : (a b : ℕ) → Tells (eqb a b) (a ≡ b)
tells-eq a b = record { out = eqb→eq a b; back = eq→eqb }

pub both : {a b : Bool} {P Q : Type 0} → Tells a P → Tells b Q → Tells (a && b) (P × Q)
both {a} {b} s t =
    record {
      out = λ u. (s.out (and_left a b u), t.out (and_right a b u));
      back = λ p. and_in a b (s.back p.0) (t.back p.1);
    }

pub restated : {b : Bool} {P Q : Type 0} → Tells b P → (P → Q) → (Q → P) → Tells b Q
restated t f g = record { out = λ u. f (t.out u); back = λ q. t.back (g q) }

-- two tests of what comes to the same
pub alike : {a b : Bool} {P Q : Type 0} → Tells a P → Tells b Q → (P → Q) → (Q → P) → a ≡ b
alike {a} {b} s t f g = go a b (λ u. t.back (f (s.out u))) (λ u. s.back (g (t.out u)))
  where
    go : (a b : Bool) → (T a → T b) → (T b → T a) → a ≡ b
    go true true f g = refl
    go true false f g = absurd (f tt)
    go false true f g = absurd (g tt)
    go false false f g = refl

pub fails : {b : Bool} {P : Type 0} → Tells b P → (P → ⊥) → false ≡ b
fails t f = alike (record { out = λ u. u; back = λ u. u }) t (λ u. absurd u) f
