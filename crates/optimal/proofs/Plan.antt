-- The rule's own plan, looked at as a schedule.
--     plan_names      what it names in slot t is the rule's slot t
--     plan_entry      entry t × N + p is the row that the rule picks at p at instant t
--     plan_state      so the run of the plan is the rule's run
-- Assumes nothing.
use mathlib.Core.Path.{◌≡◌, refl, ◌∙◌, ap, sym}
use Prim.Native.Nat.{ℕ, zero, suc, ◌+◌, ◌*◌, ◌≤◌, ◌<◌}
use native.Mathlib.Nat.{suc-mul, mul-le-mul_right}
use native.Mathlib.Omega.{arith}
use native.Mathlib.Decide.{dec_lt}
use mathlib.Core.List.{List, ◌++◌}
use lib.ListN.{length, get_or, take, drop, length-drop}
use lib.Seq.{take-append-le, drop-append-le, drop_at, take_all, get_or-take, get_or-drop}
use Rattle.slack.specs.Slack.{Traffic, slot_of, pick, state_at, plan_of}
use Rattle.slack.proofs.Rule.{slot_length, plan_length, slot_entry, state_length}
use Rattle.optimal.specs.Schedule.{named_in, left_at}

-- An entry of a slot lies behind the entries of the slots before it, and within its own.
pub entry_inside : (n slots t p : ℕ) → t < slots → p < n → t * n + p < slots * n
entry_inside n slots t p early inside = omega (arith, suc-mul t n, mul-le-mul_right n early)

module _ (T : Traffic) (start : List ℕ) where
  -- What the plan names in slot t is the rule's slot t.
  pub plan_names : (slots t : ℕ) → t < slots → named_in T (plan_of T start slots) t ≡ slot_of T t (state_at T start t)
  unfolding plan_of named_in
  plan_names zero t l = absurd (omega arith)
  plan_names (suc slots) t l = go (dec_lt t slots) (plan_names slots t)
    where
      n : ℕ
      n = T.nodes

      plan : List ℕ
      plan = plan_of T start slots

      slot : List ℕ
      slot = slot_of T slots (state_at T start slots)

      go : Dec (t < slots) → (t < slots → named_in T plan t ≡ slot_of T t (state_at T start t))
          → take n (drop (t * n) (plan ++ slot)) ≡ slot_of T t (state_at T start t)
      go (yes d) more =
          let room : t * n + n ≤ length plan =
          omega (arith, plan_length T start slots, suc-mul t n, mul-le-mul_right n d) in
          let rest : n ≤ length (drop (t * n) plan) = omega (arith, length-drop (t * n) plan) in
          rw (drop-append-le (t * n) plan slot (omega arith), take-append-le n (drop (t * n) plan) slot rest) (more d)
      go (no d) more =
          let e : t ≡ slots = omega arith in
          let long : length slot ≤ n = omega (arith, slot_length T slots (state_at T start slots)) in
          rw (e, drop_at plan slot (slots * n) (plan_length T start slots), take_all n slot long)

  -- Entry t × N + p of the plan is the row that the rule picks at p at instant t.
  pub plan_entry : (slots t p : ℕ) → t < slots → p < T.nodes
      → get_or (plan_of T start slots) (t * T.nodes + p) 0 ≡ pick T t (state_at T start t) p (length start)
  unfolding named_in
  plan_entry slots t p early inside =
      let plan = plan_of T start slots in
      let n = T.nodes in
      sym (get_or-take n (drop (t * n) plan) p 0 inside ∙ get_or-drop (t * n) plan p 0)
      ∙ ap (λ slot. get_or slot p 0) (plan_names slots t early) ∙ slot_entry T t (state_at T start t) p inside
      ∙ ap (pick T t (state_at T start t) p) (state_length T start t)

  -- The plan's run is the rule's.
  pub plan_state : (slots t : ℕ) → t ≤ slots → left_at T start (plan_of T start slots) t ≡ state_at T start t
  unfolding left_at state_at
  plan_state slots zero l = refl
  plan_state slots (suc t) l = rw (plan_state slots t (omega arith), plan_names slots t l)
