-- Line by line, the value is the one that the list has there.
use Rattle.std.proofs.Common.{◌≡◌, ℕ, ◌<◌, true, length, pos, refl, ap, ◌∙◌, arith}
use Rattle.descriptions.proofs.Fits.{as_many}
use Rattle.descriptions.specs.Fitting.{fits as fits_kind}
use Rattle.descriptions.specs.declared.value.Value.TheVariants.{Word, Number}
use Rattle.sheet.specs.Lines.{sheet_lines, model_number, regime_number, service_number, length_number}
use Rattle.sheet.specs.declared.words.Model.{Model}
use Rattle.sheet.specs.declared.words.Model.TheVariants.{Scmt, Etcs}
use Rattle.sheet.specs.declared.words.Regime.{Regime}
use Rattle.sheet.specs.declared.words.Regime.TheVariants.{Operation, Trial}
use Rattle.sheet.specs.declared.words.Service.{Service}
use Rattle.sheet.specs.declared.words.Service.TheVariants.{Passenger, Goods}
use Rattle.sheet.specs.declared.words.LengthChoice.{LengthChoice}
use Rattle.sheet.specs.declared.words.LengthChoice.TheVariants.{Fixed, Train}
use Rattle.sheet.proofs.Rebuilding.{kind_at, value_at, fit, chosen, kept, next, done}
use Rattle.sheet.proofs.values.Values.of_fitting.Goals as goal

pub returns : goal.returns
returns c =
    let list = c.args.list.now in
    let size : length list ≡ 12 = as_many sheet_lines list c.requires in
    let fits : (i : ℕ) → i < 12 → fits_kind (kind_at i) (value_at list i) ≡ true = λ i few. fit list i c.requires few in
    next list 0 size (omega arith) (ap (λ (x : Model). Word (model_number x)) c.choice.ensures ∙ chosen model_number Scmt Etcs (kind_at 0) (value_at list 0) refl refl refl (fits 0 (omega arith)))
    (next list 1 size (omega arith) (ap (λ (x : Regime). Word (regime_number x)) c.choice-2.ensures ∙ chosen regime_number Operation Trial (kind_at 1) (value_at list 1) refl refl refl (fits 1 (omega arith)))
    (next list 2 size (omega arith) (ap (λ (x : Service). Word (service_number x)) c.choice-3.ensures ∙ chosen service_number Passenger Goods (kind_at 2) (value_at list 2) refl refl refl (fits 2 (omega arith)))
    (next list 3 size (omega arith) (ap (λ (x : Service). Word (service_number x)) c.choice-4.ensures ∙ chosen service_number Passenger Goods (kind_at 3) (value_at list 3) refl refl refl (fits 3 (omega arith)))
    (next list 4 size (omega arith) (ap (λ (x : ℕ). Number (pos x)) c.number_of_16_bits.ensures ∙ kept (kind_at 4) (value_at list 4) refl (fits 4 (omega arith)))
    (next list 5 size (omega arith) (ap (λ (x : ℕ). Number (pos x)) c.number_of_16_bits-2.ensures ∙ kept (kind_at 5) (value_at list 5) refl (fits 5 (omega arith)))
    (next list 6 size (omega arith) (ap (λ (x : ℕ). Number (pos x)) c.number_of_16_bits-3.ensures ∙ kept (kind_at 6) (value_at list 6) refl (fits 6 (omega arith)))
    (next list 7 size (omega arith) (ap (λ (x : LengthChoice). Word (length_number x)) c.choice-5.ensures ∙ chosen length_number Fixed Train (kind_at 7) (value_at list 7) refl refl refl (fits 7 (omega arith)))
    (next list 8 size (omega arith) (ap (λ (x : ℕ). Number (pos x)) c.number_of_16_bits-4.ensures ∙ kept (kind_at 8) (value_at list 8) refl (fits 8 (omega arith)))
    (next list 9 size (omega arith) (ap (λ (x : ℕ). Number (pos x)) c.number_of_16_bits-5.ensures ∙ kept (kind_at 9) (value_at list 9) refl (fits 9 (omega arith)))
    (next list 10 size (omega arith) (ap (λ (x : ℕ). Number (pos x)) c.number_of_16_bits-6.ensures ∙ kept (kind_at 10) (value_at list 10) refl (fits 10 (omega arith)))
    (next list 11 size (omega arith) (ap (λ (x : ℕ). Number (pos x)) c.number_of_16_bits-7.ensures ∙ kept (kind_at 11) (value_at list 11) refl (fits 11 (omega arith)))
    (done list size))))))))))))
