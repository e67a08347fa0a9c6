-- Laws of any trace: what each extraction keeps holds of every state and of the end; a measure that falls brings it to its end, and a tally bounds the extractions that raise it; from each
-- state on it is that state's own trace; and two machines in step make traces in step. By induction on the fuel. Assumes nothing.
use mathlib.Core.Path.{◌≡◌, refl, sym, ap, ◌∙◌}
use mathlib.Core.Bool.{Bool, true, false, cond}
use mathlib.Core.List.{List, [], ◌∷◌, ◌++◌}
use mathlib.Core.Option.{some}
use Prim.Native.Nat.{ℕ, zero, suc, ◌+◌, ◌≤◌, ◌<◌, zero-le, suc-le-suc}
use native.Mathlib.Omega.{arith}
use lib.ListN.{length}
use Rattle.laws.specs.Lists.{All, May, keep}
use Rattle.laws.specs.Pairs.{Paired, MayPair}
use Rattle.queue.specs.Run.{Next, on, over, Trace, ended, after, trace}

module _ {S E : Type 0} where
  -- what an extraction leads to has P if it is a state, Q if it is an end
  unfoldable pub Leads : (S → Type 0) → (E → Type 0) → Next S E → Type 0
  Leads P Q (on s) = P s
  Leads P Q (over e) = Q e

  module _ (next : S → Next S E) where
    -- never more extractions than the fuel
    pub trace-length : (fuel : ℕ) (x : Next S E) → length (trace next fuel x).states ≤ fuel
    unfolding trace ended after
    trace-length zero (on s) = zero-le
    trace-length zero (over e) = zero-le
    trace-length (suc fuel) (on s) = suc-le-suc (trace-length fuel (next s))
    trace-length (suc fuel) (over e) = zero-le

    -- an end is the trace's at once
    pub trace-over : (fuel : ℕ) (e : E) → trace next fuel (over e) ≡ ended (some e)
    unfolding trace
    trace-over zero e = refl
    trace-over (suc fuel) e = refl

    -- ---- what is kept

    module _ (P : S → Type 0) (Q : E → Type 0) (kept : (s : S) → P s → Leads P Q (next s)) where
      pub states-all : (fuel : ℕ) (x : Next S E) → Leads P Q x → All P (trace next fuel x).states
      unfolding trace ended after Leads All
      states-all zero (on s) h = tt
      states-all zero (over e) h = tt
      states-all (suc fuel) (on s) h = (h, states-all fuel (next s) (kept s h))
      states-all (suc fuel) (over e) h = tt

      pub end-may : (fuel : ℕ) (x : Next S E) → Leads P Q x → May Q (trace next fuel x).end
      unfolding trace ended after Leads May
      end-may zero (on s) h = tt
      end-may zero (over e) h = h
      end-may (suc fuel) (on s) h = end-may fuel (next s) (kept s h)
      end-may (suc fuel) (over e) h = h

    -- ---- a measure that falls

    -- fuel for the measure brings the trace to its end
    pub trace-ends : (P : S → Type 0) (Q : E → Type 0) (μ : S → ℕ) → ((s : S) → P s → 0 < μ s) →
        ((s : S) (n : ℕ) → P s → μ s ≤ suc n → Leads (λ z. P z × (μ z ≤ n)) Q (next s)) →
        (fuel : ℕ) (x : Next S E) → Leads (λ z. P z × (μ z ≤ fuel)) Q x → (e : E) × ((trace next fuel x).end ≡ some e) × Q e
    unfolding trace ended after Leads
    trace-ends P Q μ l f zero (on s) h = absurd (omega (arith, l s h.0))
    trace-ends P Q μ l f zero (over e) h = (e, refl, h)
    trace-ends P Q μ l f (suc fuel) (on s) h = let r = trace-ends P Q μ l f fuel (next s) (f s fuel h.0 h.1) in (r.0, r.1, r.2)
    trace-ends P Q μ l f (suc fuel) (over e) h = (e, refl, h)

    -- ---- a tally

    module _ (P : S → Type 0) (tally : S → ℕ) (test : S → Bool) (L : ℕ) where
      -- the tally is n or more, at a state with P
      abbrev Tallied : ℕ → Next S E → Type 0
      Tallied n = Leads (λ s. P s × (n ≤ tally s)) (λ _. Unit {0})

      -- where each extraction that passes the test raises the tally, and not above L, at most L pass
      pub trace-count : ((s : S) (n : ℕ) → P s → n ≤ tally s → (cond (test s) 1 0 + n ≤ L) × Tallied (cond (test s) 1 0 + n) (next s)) →
          (fuel n : ℕ) (x : Next S E) → n ≤ L → Tallied n x → length (keep test (trace next fuel x).states) + n ≤ L
      unfolding trace ended after keep Leads
      trace-count k zero n (on s) l h = omega arith
      trace-count k zero n (over e) l h = omega arith
      trace-count k (suc fuel) n (on s) l h =
          let r = k s n h.0 h.1 in
          go (test s) (trace-count k fuel (cond (test s) 1 0 + n) (next s) r.0 r.1)
        where
          later : List S
          later = keep test (trace next fuel (next s)).states

          go : (b : Bool) → length later + (cond b 1 0 + n) ≤ L → length (cond b (s ∷ later) later) + n ≤ L
          go true m = omega arith
          go false m = omega arith
      trace-count k (suc fuel) n (over e) l h = omega arith

    -- ---- from a state on

    none_here : (made : List S) (here : S) (later : List S) → [] ≡ made ++ here ∷ later → ⊥
    none_here [] here later e = let z : ◌≡◌ {A = ℕ} 0 1 = cc in omega arith
    none_here (m ∷ made) here later e = let z : ◌≡◌ {A = ℕ} 0 1 = cc in omega arith

    -- of the trace t, whose states are those `made`, then `here`, then those `later`
    pub record LeftOf (fuel : ℕ) (t : Trace S E) (made : List S) (here : S) (later : List S) : Type 0 where
      pub less : ℕ
      pub count : fuel ≡ length made + suc less
      pub rest : later ≡ (trace next less (next here)).states
      pub ends : t.end ≡ (trace next less (next here)).end

    pub trace-left : (fuel : ℕ) (x : Next S E) (made : List S) (here : S) (later : List S) → (trace next fuel x).states ≡ made ++ here ∷ later →
        LeftOf fuel (trace next fuel x) made here later
    unfolding trace ended after
    trace-left zero (on s) made here later e = absurd (none_here made here later e)
    trace-left zero (over x) made here later e = absurd (none_here made here later e)
    trace-left (suc fuel) (over x) made here later e = absurd (none_here made here later e)
    trace-left (suc fuel) (on s) [] here later e =
        let h : s ≡ here = cc in
        let l : (trace next fuel (next s)).states ≡ later = cc in
        record {
          less = fuel;
          count = omega arith;
          rest = sym l ∙ ap (λ z. (trace next fuel (next z)).states) h;
          ends = ap (λ z. (trace next fuel (next z)).end) h;
        }
    trace-left (suc fuel) (on s) (m ∷ made) here later e =
        let l = trace-left fuel (next s) made here later (cc) in
        record { less = l.less; count = omega (arith, l.count); rest = l.rest; ends = l.ends }

-- ---- two machines in step

module _ {S S' E E' : Type 0} (R : S → S' → Type 0) (Q : E → E' → Type 0) where
  -- both go on, or both are over
  unfoldable pub InStep : Next S E → Next S' E' → Type 0
  InStep (on s) (on s') = R s s'
  InStep (on s) (over e) = ⊥
  InStep (over e) (on s) = ⊥
  InStep (over e) (over e') = Q e e'

  -- the states are in step, and so are the ends
  pub record TracesInStep (t : Trace S E) (t' : Trace S' E') : Type 0 where
    pub states : Paired R t.states t'.states
    pub end : MayPair Q t.end t'.end

  pub traces-in-step : (next : S → Next S E) (next' : S' → Next S' E') → ((s : S) (s' : S') → R s s' → InStep (next s) (next' s')) →
      (fuel : ℕ) (x : Next S E) (x' : Next S' E') → InStep x x' → TracesInStep (trace next fuel x) (trace next' fuel x')
  unfolding trace ended after InStep Paired MayPair
  traces-in-step next next' k zero (on s) (on s') h = record { states = tt; end = tt }
  traces-in-step next next' k zero (on s) (over e) h = absurd h
  traces-in-step next next' k zero (over e) (on s) h = absurd h
  traces-in-step next next' k zero (over e) (over e') h = record { states = tt; end = h }
  traces-in-step next next' k (suc fuel) (on s) (on s') h =
      let r = traces-in-step next next' k fuel (next s) (next' s') (k s s' h) in
      record { states = (h, r.states); end = r.end }
  traces-in-step next next' k (suc fuel) (on s) (over e) h = absurd h
  traces-in-step next next' k (suc fuel) (over e) (on s) h = absurd h
  traces-in-step next next' k (suc fuel) (over e) (over e') h = record { states = tt; end = h }
