-- The values of the lines are those of one sheet only.
use Rattle.std.proofs.Common.{◌≡◌, ℕ, List, Some, None, Option, pos, negsuc, sym, refl, ap, ◌∙◌}
use Rattle.std.proofs.lemmas.Bool.{false≢true}
use Rattle.descriptions.specs.Fitting.{all_fit}
use Rattle.descriptions.specs.declared.value.Value.{Value}
use Rattle.descriptions.specs.declared.value.Value.TheVariants.{Word, Number}
use Rattle.sheet.specs.Lines.{sheet_lines, list_of, model_number, regime_number, service_number, length_number}
use Rattle.sheet.specs.Lists.{choice_of, ValuesMade, IsMadeBack}
use Rattle.sheet.specs.Ranges.{in_ranges}
use Rattle.sheet.specs.declared.values.Values.{Values}
use Rattle.sheet.specs.declared.words.Model.{Model}
use Rattle.sheet.specs.declared.words.Model.TheVariants.{Scmt, Etcs}
use Rattle.sheet.specs.declared.words.Regime.{Regime}
use Rattle.sheet.specs.declared.words.Regime.TheVariants.{Operation, Trial}
use Rattle.sheet.specs.declared.words.Service.{Service}
use Rattle.sheet.specs.declared.words.Service.TheVariants.{Passenger, Goods}
use Rattle.sheet.specs.declared.words.LengthChoice.{LengthChoice}
use Rattle.sheet.specs.declared.words.LengthChoice.TheVariants.{Fixed, Train}
use Rattle.sheet.proofs.Rebuilding.{value_at}

model_back : (m : Model) → choice_of (Word (model_number m)) Scmt Etcs ≡ m
model_back Scmt = refl
model_back Etcs = refl

regime_back : (r : Regime) → choice_of (Word (regime_number r)) Operation Trial ≡ r
regime_back Operation = refl
regime_back Trial = refl

service_back : (s : Service) → choice_of (Word (service_number s)) Passenger Goods ≡ s
service_back Passenger = refl
service_back Goods = refl

length_back : (l : LengthChoice) → choice_of (Word (length_number l)) Fixed Train ≡ l
length_back Fixed = refl
length_back Train = refl

whole : Value → ℕ
whole (Word n) = 0
whole (Number (pos n)) = n
whole (Number (negsuc n)) = 0

-- the sheet of some values, whether they fit the lines or not
made : List Value → Values
made list = record {
  model = choice_of (value_at list 0) Scmt Etcs;
  regime = choice_of (value_at list 1) Operation Trial;
  train = choice_of (value_at list 2) Passenger Goods;
  brake = choice_of (value_at list 3) Passenger Goods;
  ep = whole (value_at list 4);
  lambda = whole (value_at list 5);
  length = whole (value_at list 6);
  lfren = choice_of (value_at list 7) Fixed Train;
  kr = whole (value_at list 8);
  tw = whole (value_at list 9);
  ti = whole (value_at list 10);
  eps = whole (value_at list 11);
}

made_back : (v : Values) → made (list_of v) ≡ v
unfolding made whole
made_back v = rw (model_back v.model, regime_back v.regime, service_back v.train, service_back v.brake, length_back v.lfren) refl

pub one_list : (v w : Values) → list_of v ≡ list_of w → v ≡ w
one_list v w e = sym (made_back v) ∙ (ap made e ∙ made_back w)

pub back : (list : List Value) (r : Option Values) → ValuesMade list r → IsMadeBack list r
unfolding in_ranges
back list (Some w) made v fit e = ap Some (one_list w v (made.1 ∙ sym e))
back list None made v fit e = absurd (false≢true (sym made ∙ (ap (all_fit sheet_lines) (sym e) ∙ fit)))
