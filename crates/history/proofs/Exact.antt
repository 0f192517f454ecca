-- What stands and what is listed, behind one more entry.
use Rattle.std.proofs.Common.{◌≡◌, ℕ, ◌⊎◌, List, [], ◌∷◌, ◌++◌, sym, subst, inl, inr}
use Rattle.place_list.specs.Membership.{In}
use Rattle.place_list.specs.Insertion.{placed_in}
use Rattle.place_list.proofs.Members.{one_more_placed}
use Rattle.calls.specs.declared.call.Call.{Call}
use Rattle.calls.specs.declared.record.Record.{Record}
use Rattle.history.specs.Agrees.{ListedExactly}
use Rattle.history.specs.History.{History, Section, Accepts, LastUpTo, SectionStands, StandsSince, WasAccepted, slope}
use Rattle.history.specs.Step.{without_mark}
use Rattle.history.proofs.Lists.{in_without, without_in}
use Rattle.history.proofs.Splits.{accepted_cases, accepted_more, accepted_new, stands_cases, stands_more, stands_new}
use Rattle.history.proofs.Tracked.{Distinct, section_place}

-- What holds by what stands holds by what is listed, and the other way round.
module _ {X : Type 0} (Stands : X → Type 0) (xs : List X) (place : X → ℕ) (p : ℕ) (x : X) (k : ListedExactly Stands xs) where
  pub holds_listed : LastUpTo Stands place p x → LastUpTo (λ (y : X). In y xs) place p x
  holds_listed w = record { stands = k.listed x w.stands; begun = w.begun; last = λ y i l. w.last y (k.stands y i) l }

  pub holds_standing : LastUpTo (λ (y : X). In y xs) place p x → LastUpTo Stands place p x
  holds_standing w = record { stands = k.stands x w.stands; begun = w.begun; last = λ y a l. w.last y (k.listed y a) l }

-- What stood stands then, and what else stands then is new.
module _ {X : Type 0} {Stands Then New : X → Type 0} (xs : List X) (k : ListedExactly Stands xs) (more : (x : X) → Stands x → Then x) (cases : (x : X) → Then x → Stands x ⊎ New x) where
  -- none is new
  same : ((x : X) → New x → ⊥) → ListedExactly Then xs
  same never = record {
    listed = λ x a. elim (cases x a) [ inl b ↦ k.listed x b | inr b ↦ absurd (never x b) ];
    stands = λ x i. more x (k.stands x i);
  }

  -- just one is new
  added : (place : X → ℕ) (new : X) → Then new → ((x : X) → New x → x ≡ new) → ListedExactly Then (placed_in place new xs)
  added place new it only = record {
    listed = λ x a. elim (cases x a) [
      | inl b ↦ (one_more_placed place new xs).rest x (k.listed x b)
      | inr b ↦ subst (λ (y : X). In y (placed_in place new xs)) (sym (only x b)) (one_more_placed place new xs).it
    ];
    stands = λ x i. elim ((one_more_placed place new xs).only x i) [ inl j ↦ more x (k.stands x j) | inr is ↦ subst Then (sym is) it ];
  }

-- Items that are added and taken out by calls.
module _ {X : Type 0} (adds : X → Call → Type 0) (takes_out : X → Call) (h : History) (e : Record) (xs : List X) (k : ListedExactly (λ (x : X). StandsSince h (adds x) (takes_out x)) xs) where
  abbrev Then : X → Type 0
  Then x = StandsSince (h ++ e ∷ []) (adds x) (takes_out x)

  cases : (x : X) → Then x → StandsSince h (adds x) (takes_out x) ⊎ (adds x e.call × WasAccepted e.answer)
  cases x a = elim (stands_cases h (adds x) (takes_out x) e a) [ inl b ↦ inl b.0 | inr b ↦ inr b ]

  pub exactly_same : ((x : X) → adds x e.call → WasAccepted e.answer → ⊥) → ((x : X) → Accepts e (takes_out x) → ⊥) → ListedExactly Then xs
  exactly_same never-adds never-takes = same xs k (λ x a. stands_more h (adds x) (takes_out x) e a (never-takes x)) cases (λ x b. never-adds x b.0 b.1)

  pub exactly_added : (place : X → ℕ) (new : X) → WasAccepted e.answer → adds new e.call → ((x : X) → adds x e.call → x ≡ new) → ((x : X) → Accepts e (takes_out x) → ⊥) →
      ListedExactly Then (placed_in place new xs)
  exactly_added place new acc it only never-takes =
      added xs k (λ x a. stands_more h (adds x) (takes_out x) e a (never-takes x)) cases place new (stands_new h (adds new) (takes_out new) e it acc) (λ x b. only x b.0)

  -- just the one with the mark is taken out
  pub exactly_taken : (mark : X → ℕ) (n : ℕ) → Distinct mark xs → ((x : X) → adds x e.call → ⊥) → ((x : X) → mark x ≡ n → Accepts e (takes_out x)) → ((x : X) → Accepts e (takes_out x) → mark x ≡ n) →
      ListedExactly Then (without_mark mark n xs)
  exactly_taken mark n d never-adds takes only = record {
    listed = λ x a. elim (stands_cases h (adds x) (takes_out x) e a) [
      | inl b ↦ in_without mark n xs x (k.listed x b.0) (λ q. b.1 (takes x q))
      | inr b ↦ absurd (never-adds x b.0)
    ];
    stands = λ x i. let w = without_in mark n xs d x i in stands_more h (adds x) (takes_out x) e (k.stands x w.0) (λ b. w.1 (only x b));
  }

-- Sections, which no call takes out.
module _ (h : History) (e : Record) (xs : List Section) (k : ListedExactly (SectionStands h) xs) where
  pub sections_same : ((x : Section) → Accepts e (slope x.place x.grade) → ⊥) → ListedExactly (SectionStands (h ++ e ∷ [])) xs
  sections_same never = same xs k (λ x. accepted_more e) (λ x. accepted_cases h _ e) never

  pub section_added : (new : Section) → Accepts e (slope new.place new.grade) → ((x : Section) → Accepts e (slope x.place x.grade) → x ≡ new) → ListedExactly (SectionStands (h ++ e ∷ [])) (placed_in section_place new xs)
  section_added new it only = added xs k (λ x. accepted_more e) (λ x. accepted_cases h _ e) section_place new (accepted_new h e it) only
