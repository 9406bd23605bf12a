-- The releases ahead of two tasks: each is the first after the one before it.
use Rattle.std.proofs.Common.{◌≡◌, ℕ, zero, suc, true, false, List, [], ◌∷◌, Some, None, Option, sym, refl, subst, arith}
use Rattle.std.proofs.lemmas.Bool.Decides.{nat_tests}
use Rattle.rows.specs.declared.memory.Task.{Task}
use Rattle.model.specs.Members.{here, there}
use Rattle.ahead.specs.declared.release.Release.{Release}
use Rattle.ahead.specs.Ahead.{Released, release_of, sooner, past}
use Rattle.cases.specs.Worked.{task, release, WorkedReleasesAreAhead}

abbrev two : List Task
two = task 1 1 2 ∷ task 2 1 3 ∷ []

-- y is not before x, where it is past p
abbrev Waits : Option Release → Release → Release → Type 0
Waits p x y = past 0 p y ≡ true → sooner y x ≡ false

each : (p : Option Release) (x : Release) → ((j : ℕ) → Waits p x (release_of (task 1 1 2) j)) → ((j : ℕ) → Waits p x (release_of (task 2 1 3) j)) → (y : Release) → Released two y → Waits p x y
each p x f g y (t, j, here, e) = subst (Waits p x) (sym e) (f j)
each p x f g y (t, j, there here, e) = subst (Waits p x) (sym e) (g j)
each p x f g y (t, j, there (there none), e) = elim none [ ]

pub releases_are_ahead : WorkedReleasesAreAhead
releases_are_ahead zero lt = record { released = (task 1 1 2, 1, here, refl); after = refl; first = each None (release 2 1) (λ j h. grind (arith, nat_tests)) (λ j h. grind (arith, nat_tests)) }
releases_are_ahead (suc zero) lt = record { released = (task 2 1 3, 1, there here, refl); after = refl; first = each (Some (release 2 1)) (release 3 2) (λ j h. grind (arith, nat_tests)) (λ j h. grind (arith, nat_tests)) }
releases_are_ahead (suc (suc zero)) lt = record { released = (task 1 1 2, 2, here, refl); after = refl; first = each (Some (release 3 2)) (release 4 1) (λ j h. grind (arith, nat_tests)) (λ j h. grind (arith, nat_tests)) }
releases_are_ahead (suc (suc (suc zero))) lt = record { released = (task 1 1 2, 3, here, refl); after = refl; first = each (Some (release 4 1)) (release 6 1) (λ j h. grind (arith, nat_tests)) (λ j h. grind (arith, nat_tests)) }
releases_are_ahead (suc (suc (suc (suc zero)))) lt = record { released = (task 2 1 3, 2, there here, refl); after = refl; first = each (Some (release 6 1)) (release 6 2) (λ j h. grind (arith, nat_tests)) (λ j h. grind (arith, nat_tests)) }
releases_are_ahead (suc (suc (suc (suc (suc k))))) lt = absurd (omega arith)
