-- `loading::loader::load` meets its contract: its number is that of loading. Assumes nothing.
use mathlib.Core.Path.{◌≡◌, ap}
use Rattle.std.specs.Prelude.{Result}
use Rattle.codebook.specs.declared.Refusal.{Refusal}
use Rattle.codebook.specs.declared.Shape.{Shape}
use Rattle.codebook.specs.Refusals.{outcome_number}
use Rattle.codebook.specs.Loading.{Load, refused, loaded, load, shape_of, number_by}
use Rattle.loading.proofs.loader.load.Goals as goal

-- the number of what loading answers
shape-number : (l : Load) (x : Result Shape Refusal) → x ≡ shape_of l → outcome_number x ≡ number_by l (λ _. 0)
unfolding shape_of number_by
shape-number (refused r) x e = ap (λ (y : Result Shape Refusal). outcome_number y) e
shape-number (loaded B) x e = ap (λ (y : Result Shape Refusal). outcome_number y) e

pub returns : goal.returns
returns c =
    let e = c.load_tables.ensures.answer in
    record { value = e; number = shape-number (load c.args.book.now) c.load_tables.result e }
