-- What a decoding call promises, from its answer and buffers by the reader's run: the calls agree, the run is the whole run, and the rest follows. Assumes nothing.
use mathlib.Core.Path.{◌≡◌, sym, ap, ◌∙◌, subst, subst₂}
use Rattle.codebook.specs.Refusals.{outcome_number}
use Rattle.codec.specs.Record.{no_record}
use Rattle.machine.specs.declared.Reads.TheVariants.{Data}
use Rattle.machine.specs.declared.Manner.{Manner}
use Rattle.machine.specs.declared.HookDecoded.{HookDecoded}
use Rattle.machine.specs.Calls.{Input, Lent, Called, machine_run, call_by, call_of, bare, unread}
use Rattle.machine.proofs.Called.{data-unread}
use Rattle.machine.proofs.Numbers.{call-number}
use Rattle.runs.specs.Handed.{Handed}
use Rattle.runs.proofs.Handed.{handed}
use Rattle.attempts.specs.Reading.{reader_run}
use Rattle.attempts.specs.WholeRun.{WholeRun}
use Rattle.attempts.proofs.Whole.{whole-call, calls-agree}
use Rattle.decoder.specs.Decodes.{Decodes}

module _ (k : Manner) (c : Input) (l : Lent) (answer : HookDecoded) (after : Lent) where
  pub decodes : answer ≡ (call_by reader_run k c l).answer → after ≡ (call_by reader_run k c l).lent → Decodes k c l answer after
  decodes a b =
      let e = calls-agree k c l in
      let p : answer ≡ (call_of k c l).answer = a ∙ ap (λ (w : Called HookDecoded). w.answer) e in
      let q : after ≡ (call_of k c l).lent = b ∙ ap (λ (w : Called HookDecoded). w.lent) e in
      record {
        answered = p;
        left = q;
        whole = subst₂ (λ (x : HookDecoded) (y : Lent). WholeRun k c l x.counts y) (sym a) (sym b) (whole-call k c l);
        handed = subst₂ (Handed k c l) (sym p) (sym q) (handed k c l);
        number = ap (λ (x : HookDecoded). outcome_number x.outcome) p ∙ call-number k c l;
      }

  -- where no record is read, the answer without its record is all of it
  pub without_record : k.reads ≡ Data → Decodes k c l answer after → Decodes k c l (unread (bare answer)) after
  without_record e d =
      let h : answer.hook ≡ no_record = ap (λ (x : HookDecoded). x.hook) d.answered ∙ data-unread machine_run k c l e in
      subst (λ (x : HookDecoded). Decodes k c l x after) (λ i. record { outcome = answer.outcome; counts = answer.counts; hook = h i }) d
