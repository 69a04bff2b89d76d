-- The model's answer tells a call's result: two results that differ answer differently.
use mathlib.Core.Path.{◌≡◌, refl, sym, ap, ◌∙◌}
use Prim.Native.Nat.{ℕ}
use Rattle.std.specs.Prelude.{⊤, Option, Some, None, Result, Ok, Err}
use Rattle.model.specs.Call as Model
use Rattle.model.specs.Call.{is_file, is_directory, Verdict, Found as Finding, Listed as Listing, empty, holds, Answer, refused, granted}
use Rattle.outcomes.specs.declared.Counts.{Counts}
use Rattle.outcomes.specs.declared.Kind.{Kind}
use Rattle.outcomes.specs.declared.Kind.TheVariants.{File, Directory}
use Rattle.outcomes.specs.declared.Found.{Found}
use Rattle.outcomes.specs.declared.Listed.{Listed}
use Rattle.outcomes.specs.Answers.{answered, kind_of, found_of, listed_of}
use Rattle.refusals2.specs.declared.Refusal.{Refusal}
use Rattle.refusals2.specs.Told.{told}
use Rattle.refusals2.proofs.Injective.{case, case_told}
use Rattle.answers2.specs.Answers.{change_answer, verdict_answer, find_answer, list_answer, read_answer}

-- what is told is had back by f
module _ {A B : Type 0} (value : A → B) (f : B → A) (back : (x : A) → f (value x) ≡ x) where
  unfoldable result_case : Answer B → Result A Refusal
  result_case (refused m) = Err (case m)
  result_case (granted x) = Ok (f x)

  result_case_lem : (r : Result A Refusal) → result_case (answered told value r) ≡ r
  unfolding result_case
  result_case_lem (Ok x) = ap Ok (back x)
  result_case_lem (Err r) = ap Err (case_told r)

  answered_injective : (r s : Result A Refusal) → answered told value r ≡ answered told value s → r ≡ s
  answered_injective r s e = sym (result_case_lem r) ∙ ap result_case e ∙ result_case_lem s

kind_case : Model.Kind → Kind
kind_case (is_file locked) = File locked
kind_case is_directory = Directory

kind_case_lem : (k : Kind) → kind_case (kind_of k) ≡ k
unfolding kind_case
kind_case_lem (File locked) = refl
kind_case_lem Directory = refl

listed_case : Listing → Option Listed
listed_case empty = None
listed_case (holds kind name size date) = Some (record { kind = kind_case kind; name = name; size = size; date = date })

listed_case_lem : (l : Option Listed) → listed_case (listed_of l) ≡ l
unfolding listed_case
listed_case_lem None = refl
listed_case_lem (Some l) = ap (λ (k : Kind). Some (record { kind = k; name = l.name; size = l.size; date = l.date })) (kind_case_lem l.kind)

pub change_injective : (r s : Result ⊤ Refusal) → change_answer r ≡ change_answer s → r ≡ s
change_injective = answered_injective (λ x. tt) (λ x. tt) (λ x. refl)

pub verdict_injective : (r s : Result Counts Refusal) → verdict_answer r ≡ verdict_answer s → r ≡ s
verdict_injective = answered_injective _ (λ v. record { pages = v.pages; free = v.free }) (λ x. refl)

pub find_injective : (r s : Result Found Refusal) → find_answer r ≡ find_answer s → r ≡ s
find_injective = answered_injective found_of (λ f. record { kind = kind_case f.kind; size = f.size; date = f.date })
    (λ f. ap (λ (k : Kind). record { kind = k; size = f.size; date = f.date }) (kind_case_lem f.kind))

pub list_injective : (r s : Result (Option Listed) Refusal) → list_answer r ≡ list_answer s → r ≡ s
list_injective = answered_injective listed_of listed_case listed_case_lem

pub read_injective : (r s : Result ℕ Refusal) → read_answer r ≡ read_answer s → r ≡ s
read_injective = answered_injective (λ n. n) (λ n. n) (λ n. refl)
