-- How many ticks the earliest pending jobs have had, as ticks go to one of them.
use Rattle.std.proofs.Common.{◌≡◌, ℕ, zero, suc, ◌+◌, Bool, true, false, eqb, Option, Some, None, refl, sym, ◌∙◌, inl, inr, arith}
use Rattle.std.proofs.lemmas.Bool.{cases_Bool, cond-true, cond-false, false≢true}
use Rattle.cpa_sched.specs.Stretches.{gets, received_after}
use Rattle.cpa_sim.specs.Run.{is_chosen}

pub gets-chosen : (o : Option ℕ) (n j : ℕ) → is_chosen o j ≡ true → gets o n j ≡ n
gets-chosen None n j e = absurd (false≢true e)
gets-chosen (Some i) n j e = cond-true (eqb i j) n 0 e

pub gets-other : (o : Option ℕ) (n j : ℕ) → is_chosen o j ≡ false → gets o n j ≡ 0
gets-other None n j e = refl
gets-other (Some i) n j e = cond-false (eqb i j) n 0 e

gets-add : (o : Option ℕ) (n m j : ℕ) → gets o n j + gets o m j ≡ gets o (n + m) j
gets-add o n m j =
    elim (cases_Bool (is_chosen o j)) [
      | inl runs ↦ omega (arith, gets-chosen o n j runs, gets-chosen o m j runs, gets-chosen o (n + m) j runs)
      | inr rests ↦ omega (arith, gets-other o n j rests, gets-other o m j rests, gets-other o (n + m) j rests)
    ]

gets-none : (o : Option ℕ) (j : ℕ) → gets o 0 j ≡ 0
gets-none o j =
    elim (cases_Bool (is_chosen o j)) [
      | inl runs ↦ gets-chosen o 0 j runs
      | inr rests ↦ gets-other o 0 j rests
    ]

pub received-is : (received : ℕ → ℕ) (o : Option ℕ) (n j : ℕ) → received_after received o n j ≡ received j + gets o n j
received-is received o zero j = omega (arith, gets-none o j)
received-is received o (suc n) j = refl

-- so many ticks more, and then so many
pub received-then : (received : ℕ → ℕ) (o : Option ℕ) (n m j : ℕ) → received_after (received_after received o n) o m j ≡ received_after received o (n + m) j
received-then received o n m j =
    omega (arith, received-is (received_after received o n) o m j, received-is received o n j, received-is received o (n + m) j, gets-add o n m j)

pub received-alike : (a b : ℕ → ℕ) (o : Option ℕ) (n j : ℕ) → a j ≡ b j → received_after a o n j ≡ received_after b o n j
received-alike a b o n j same = omega (arith, received-is a o n j, received-is b o n j, same)
