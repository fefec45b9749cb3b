-- The first check that is not met: among some checks, or among those behind them; and in the parts in which the code makes the checks.
-- Assumes nothing.
use Prim.Native.Nat.{ℕ, zero, suc, ◌≤◌}
use native.Mathlib.Omega.{arith}
use mathlib.Core.Path.{◌≡◌, refl, sym, ◌∙◌}
use mathlib.Core.Bool.{Bool, true, false}
use mathlib.Core.List.{List, [], ◌∷◌}
use lib.ListN.{take, drop}
use Rattle.model.specs.Lists.{if◌then◌otherwise◌}
use Rattle.model.specs.Refusal.{wrong_address, wrong_previous, wrong_parent, earlier_time, out_of_phase, duplicate, bad_content, not_on_roll, no_verdict, wrong_key, bad_signature}
use Rattle.model.specs.Format.{Format}
use Rattle.model.specs.Item.{Item}
use Rattle.model.specs.Types.{Row}
use Rattle.model.specs.History.{History}
use Rattle.model.specs.Links.{address_ok, previous_ok, parent_ok, time_ok}
use Rattle.model.specs.Phase.{phase_ok}
use Rattle.model.specs.Only.{only_ok}
use Rattle.model.specs.Content.{content_ok}
use Rattle.model.specs.Roll.{Eligibility, on_roll_ok}
use Rattle.model.specs.Keys.{key_of, verdict_ok, key_ok, signature_ok}
use Rattle.model.specs.Audit.{Check, first_unmet, checks}
use Rattle.model.proofs.Tests.{by-test}
use Rattle.model.proofs.Checks.{Numbers}
use Rattle.judge.specs.Checks.{link_checks, rule_checks, verdict_checks}

-- what the code was told of a rule, and what that was
pub told : {a b r : Bool} → a ≡ b → a ≡ r → b ≡ r
told e q = sym e ∙ q

-- ---- some checks, and those behind them

-- a refusal among the first k is the answer
first-early : (k n : ℕ) (cs : List Check) → 1 ≤ n → n ≡ first_unmet (take k cs) → n ≡ first_unmet cs
unfolding first_unmet if◌then◌otherwise◌
first-early zero n cs some e = absurd (omega arith)
first-early (suc k) n [] some e = absurd (omega arith)
first-early (suc k) n (c ∷ cs) some e = by-test c.met (λ q. rw q (first-early k n cs some (rw q at e))) (λ q. rw q (rw q at e))

-- without one it is the first behind them
first-late : (k : ℕ) (cs : List Check) → Numbers (λ n. 1 ≤ n) cs → 0 ≡ first_unmet (take k cs) → first_unmet cs ≡ first_unmet (drop k cs)
unfolding first_unmet if◌then◌otherwise◌
first-late zero cs some e = refl
first-late (suc k) [] some e = refl
first-late (suc k) (c ∷ cs) some e =
    by-test c.met
    (λ q. rw q (first-late k cs some.1 (rw q at e)))
    (λ q. let none : 0 ≡ c.number = rw q at e in let one = some.0 in absurd (omega arith))

module _ (f : Format) (on : Eligibility) (h : History) (v : List ℕ) (r : Row) (i : Item) where
  abbrev all : List Check
  all = checks f on h v r i

  -- ---- 7 to 10

  abbrev Links : ℕ → Type 0
  Links n = n ≡ first_unmet (link_checks all)

  pub links-address : address_ok f i ≡ false → Links wrong_address
  unfolding first_unmet checks if◌then◌otherwise◌
  links-address a = rw a

  pub links-previous : address_ok f i ≡ true → previous_ok f h i ≡ false → Links wrong_previous
  unfolding first_unmet checks if◌then◌otherwise◌
  links-previous a p = rw (a, p)

  pub links-parent : address_ok f i ≡ true → previous_ok f h i ≡ true → parent_ok f h r.parent i ≡ false → Links wrong_parent
  unfolding first_unmet checks if◌then◌otherwise◌
  links-parent a p o = rw (a, p, o)

  pub links-time : address_ok f i ≡ true → previous_ok f h i ≡ true → parent_ok f h r.parent i ≡ true → time_ok h i ≡ false → Links earlier_time
  unfolding first_unmet checks if◌then◌otherwise◌
  links-time a p o t = rw (a, p, o, t)

  pub links-met : address_ok f i ≡ true → previous_ok f h i ≡ true → parent_ok f h r.parent i ≡ true → time_ok h i ≡ true → Links 0
  unfolding first_unmet checks if◌then◌otherwise◌
  links-met a p o t = rw (a, p, o, t)

  -- ---- 11 to 13, and 21

  abbrev Rules : ℕ → Type 0
  Rules n = n ≡ first_unmet (rule_checks all)

  pub rules-phase : phase_ok h i ≡ false → Rules out_of_phase
  unfolding first_unmet checks if◌then◌otherwise◌
  rules-phase p = rw p

  pub rules-only : phase_ok h i ≡ true → only_ok h i ≡ false → Rules duplicate
  unfolding first_unmet checks if◌then◌otherwise◌
  rules-only p o = rw (p, o)

  pub rules-content : phase_ok h i ≡ true → only_ok h i ≡ true → content_ok f h i ≡ false → Rules bad_content
  unfolding first_unmet checks if◌then◌otherwise◌
  rules-content p o c = rw (p, o, c)

  pub rules-roll : phase_ok h i ≡ true → only_ok h i ≡ true → content_ok f h i ≡ true → on_roll_ok on i ≡ false → Rules not_on_roll
  unfolding first_unmet checks if◌then◌otherwise◌
  rules-roll p o c e = rw (p, o, c, e)

  pub rules-met : phase_ok h i ≡ true → only_ok h i ≡ true → content_ok f h i ≡ true → on_roll_ok on i ≡ true → Rules 0
  unfolding first_unmet checks if◌then◌otherwise◌
  rules-met p o c e = rw (p, o, c, e)

  -- ---- 14 to 16

  abbrev Verdict : ℕ → Type 0
  Verdict n = n ≡ first_unmet (verdict_checks all)

  pub verdict-none : verdict_ok v ≡ false → Verdict no_verdict
  unfolding first_unmet checks if◌then◌otherwise◌
  verdict-none o = rw o

  pub verdict-key : verdict_ok v ≡ true → key_ok v (key_of h r.writer i) ≡ false → Verdict wrong_key
  unfolding first_unmet checks if◌then◌otherwise◌
  verdict-key o k = rw (o, k)

  pub verdict-bad : verdict_ok v ≡ true → key_ok v (key_of h r.writer i) ≡ true → signature_ok v ≡ false → Verdict bad_signature
  unfolding first_unmet checks if◌then◌otherwise◌
  verdict-bad o k g = rw (o, k, g)

  pub verdict-good : verdict_ok v ≡ true → key_ok v (key_of h r.writer i) ≡ true → signature_ok v ≡ true → Verdict 0
  unfolding first_unmet checks if◌then◌otherwise◌
  verdict-good o k g = rw (o, k, g)

  -- ---- the parts together

  numbers : Numbers (λ n. 1 ≤ n) all
  unfolding checks
  numbers = omega arith

  numbers-late : Numbers (λ n. 1 ≤ n) (drop 4 all)
  unfolding checks
  numbers-late = omega arith

  pub first-links : (n : ℕ) → 1 ≤ n → Links n → n ≡ first_unmet all
  first-links n some e = first-early 4 n all some e

  pub first-rules : (n : ℕ) → 1 ≤ n → Links 0 → Rules n → n ≡ first_unmet all
  first-rules n some links e = first-early 4 n (drop 4 all) some e ∙ sym (first-late 4 all numbers links)

  pub first-verdict : (n : ℕ) → Links 0 → Rules 0 → Verdict n → n ≡ first_unmet all
  first-verdict n links rules e = e ∙ sym (first-late 4 all numbers links ∙ first-late 4 (drop 4 all) numbers-late rules)
