-- A pop moves the variables of its cube one by one. So it reads one entry more of each, which has the value that the
-- cube demands: the weight of what lies below the cursors grows by those of these values.
use Rattle.std.proofs.Common.{inl, inr, ◌≡◌, ℕ, zero, suc, ◌+◌, ◌*◌, ◌<◌, true, false, cond, List, [], ◌∷◌, length, get_or, set, take, sum, refl, sym, ap, ap₂, subst, ◌∙◌, arith, Contains, ext_get_or}
use Rattle.std.proofs.lemmas.Bool.{cases_Bool, cases_eq}
use Rattle.std.proofs.lemmas.List.{length-set, get_or-set_same, get_or-set_other}
use Rattle.std.proofs.lemmas.List.Elements.{All-contains}
use Rattle.std.proofs.Math.Nat.{mul_assoc, mul_comm, mul_right_comm}
use Rattle.pop_model.specs.Stacks.{row_of, value_at}
use Rattle.pop_model.specs.Popping.{Cube, cursor, names, pop, variables}
use Rattle.pop_model.specs.Logs.{LogRecord, IsLegal, replay}
use Rattle.pop_model.proofs.Diamond.{named, names_it}
use Rattle.pop_model.proofs.PopLemmas.{cursor-pop, cursor-pop_other, length-pop}
use Rattle.pop_model.proofs.Rising.{below_members, head_member, member_cases, rising_tail, tail_member}
use Rattle.std.specs.List.Sorted.{IsStrictlyIncreasing}
use Rattle.pop_stacks.proofs.DrawsLemmas.{sum-cons}
use Rattle.confluence_core.proofs.EventVariables.{event_cube}
use Rattle.pop_samples.specs.Frames.{Frame, IsFrame, Rows, over, stacks_of}
use Rattle.pop_samples.specs.Weights.{row_weight, weight_of}
use Rattle.pop_samples.proofs.MovedLogs.{known_variable}
use Rattle.drawn_samples.specs.WholeRuns.{cube_weight, log_weight, used_by}

-- the cursors with one moved on
abbrev pub bump : List ℕ → ℕ → List ℕ
bump c v = set c v (suc (cursor c v))

-- two Bools that aren't
truth : {b : _} → b ≡ true → b ≡ false → ⊥
truth is not = cc

-- a pop of a cube moves its first variable, and then the others
pub pop_bumps : (c : List ℕ) (p : ℕ × ℕ) (e : Cube) → IsStrictlyIncreasing (variables (p ∷ e)) → p.0 < length c
    → pop c (p ∷ e) ≡ pop (bump c p.0) e
pop_bumps c p e rising below =
    let v : ℕ = p.0 in
    let d : List ℕ = bump c v in
    let size : length d ≡ length c = length-set c v (suc (cursor c v)) in
    ext_get_or 0 (pop c (p ∷ e)) (pop d e) (length-pop c (p ∷ e) ∙ sym size ∙ sym (length-pop d e))
    (λ u less.
    let u_below : u < length c = let long = length-pop c (p ∷ e) in omega (arith, less, long) in
    elim (cases_eq v u) [
      | inl same ↦
          let none : names e v ≡ false = elim (cases_Bool (names e v)) [
            | inr not ↦ not
            | inl is ↦
                let x = named e v is in
                let low = below_members (λ (q : ℕ × ℕ). q.0) p e (v, x.0) rising x.1 in
                absurd (omega (arith, low))
          ] in
          let left : cursor (pop c (p ∷ e)) v ≡ cursor c v + 1 =
          cursor-pop c (p ∷ e) v below
          ∙ ap (λ b. cond b (cursor c v + 1) (cursor c v)) (names_it (p ∷ e) p (head_member p e)) in
          let right : cursor (pop d e) v ≡ suc (cursor c v) =
          cursor-pop_other d e v none ∙ get_or-set_same c v (suc (cursor c v)) 0 below in
          let equal : cursor (pop c (p ∷ e)) v ≡ cursor (pop d e) v = omega (arith, left, right) in
          subst (λ (k : ℕ). cursor (pop c (p ∷ e)) k ≡ cursor (pop d e) k) same equal
      | inr other ↦
          let kept : cursor d u ≡ cursor c u =
          get_or-set_other c v u (suc (cursor c v)) 0 (λ h. other (sym h)) in
          let alike : names (p ∷ e) u ≡ names e u = elim (cases_Bool (names e u)) [
            | inl is ↦
                let x = named e u is in
                names_it (p ∷ e) (u, x.0) (tail_member p e (u, x.0) x.1) ∙ sym is
            | inr not ↦ elim (cases_Bool (names (p ∷ e) u)) [
              | inr neither ↦ neither ∙ sym not
              | inl is ↦
                  let x = named (p ∷ e) u is in
                  elim (member_cases p e (u, x.0) x.1) [
                    | inl head ↦ absurd (other (ap (λ (q : ℕ × ℕ). q.0) head))
                    | inr behind ↦ absurd (truth (names_it e (u, x.0) behind) not)
                  ]
            ]
          ] in
          cursor-pop c (p ∷ e) u u_below
          ∙ ap₂ (λ b n. cond b (n + 1) n) alike (sym kept)
          ∙ sym (cursor-pop d e u (omega (arith, u_below, size)))
    ])

-- a pop of nothing moves nothing
pub pop_none : (c : List ℕ) → pop c [] ≡ c
pop_none c = ext_get_or 0 (pop c []) c (length-pop c []) (λ u less. cursor-pop_other c [] u refl)

-- one cursor more adds one
sum-bump : (c : List ℕ) (v : ℕ) → v < length c → sum (bump c v) ≡ suc (sum c)
sum-bump [] v below = absurd (omega (arith, below))
sum-bump (k ∷ c) zero below =
    let a = sum-cons (suc k) c in let b = sum-cons k c in omega (arith, a, b)
sum-bump (k ∷ c) (suc v) below =
    let rest = sum-bump c v (omega (arith, below)) in
    let a = sum-cons k (bump c v) in
    let b = sum-cons k c in
    omega (arith, a, b, rest)

-- what lies below the cursors
abbrev pub belows : Rows → List ℕ → Rows
belows [] c = []
belows (row ∷ rows) [] = []
belows (row ∷ rows) (k ∷ c) = take k row ∷ belows rows c

-- one entry more of a row
row_weight_more : (ws row : List ℕ) (k : ℕ) → k < length row
    → row_weight ws (take (suc k) row) ≡ row_weight ws (take k row) * get_or ws (get_or row k 0) 0
row_weight_more ws [] k below = absurd (omega (arith, below))
row_weight_more ws (y ∷ row) zero below = mul_comm (get_or ws y 0) 1
row_weight_more ws (y ∷ row) (suc k) below =
    ap (λ (n : ℕ). get_or ws y 0 * n) (row_weight_more ws row k (omega (arith, below)))
    ∙ sym (mul_assoc (get_or ws y 0) (row_weight ws (take k row)) (get_or ws (get_or row k 0) 0))

-- one cursor more
weight-bump : (weights : List (List ℕ)) (rows : Rows) (c : List ℕ) (v : ℕ) → length weights ≡ length rows
    → length c ≡ length rows → v < length c → cursor c v < length (row_of rows v)
    → weight_of weights (belows rows (bump c v))
    ≡ weight_of weights (belows rows c) * get_or (row_of weights v) (get_or (row_of rows v) (cursor c v) 0) 0
weight-bump weights rows [] v e size below inside = absurd (omega (arith, below))
weight-bump weights [] (k ∷ c) v e size below inside = absurd (omega (arith, size))
weight-bump [] (row ∷ rows) (k ∷ c) v e size below inside = absurd (omega (arith, e))
weight-bump (ws ∷ weights) (row ∷ rows) (k ∷ c) zero e size below inside =
    ap (λ (n : ℕ). n * weight_of weights (belows rows c)) (row_weight_more ws row k inside)
    ∙ mul_right_comm (row_weight ws (take k row)) (get_or ws (get_or row k 0) 0) (weight_of weights (belows rows c))
weight-bump (ws ∷ weights) (row ∷ rows) (k ∷ c) (suc v) e size below inside =
    ap (λ (n : ℕ). row_weight ws (take k row) * n)
    (weight-bump weights rows c v (omega (arith, e)) (omega (arith, size)) (omega (arith, below)) inside)
    ∙ sym (mul_assoc (row_weight ws (take k row)) (weight_of weights (belows rows c))
    (get_or (row_of weights v) (get_or (row_of rows v) (cursor c v) 0) 0))

-- each variable of a cube has, at its cursor, the value that is demanded
record Reads (rows : Rows) (c : List ℕ) (e : Cube) : Type 0 where
  known : (p : ℕ × ℕ) → Contains e p → p.0 < length c
  inside : (p : ℕ × ℕ) → Contains e p → cursor c p.0 < length (row_of rows p.0)
  value : (p : ℕ × ℕ) → Contains e p → get_or (row_of rows p.0) (cursor c p.0) 0 ≡ p.1

-- so it is behind the first
reads_rest : (rows : Rows) (c : List ℕ) (p : ℕ × ℕ) (e : Cube) → IsStrictlyIncreasing (variables (p ∷ e))
    → Reads rows c (p ∷ e) → Reads rows (bump c p.0) e
reads_rest rows c p e rising r =
    let kept : (q : ℕ × ℕ) → Contains e q → cursor (bump c p.0) q.0 ≡ cursor c q.0 = λ q has.
    let low = below_members (λ (q : ℕ × ℕ). q.0) p e q rising has in
    get_or-set_other c p.0 q.0 (suc (cursor c p.0)) 0 (λ same. absurd (omega (arith, low, same))) in
    let size : length (bump c p.0) ≡ length c = length-set c p.0 (suc (cursor c p.0)) in
    record {
      known = λ q has. let low = r.known q (tail_member p e q has) in omega (arith, low, size);
      inside = λ q has.
          let low = r.inside q (tail_member p e q has) in
          let same = kept q has in
          omega (arith, low, same);
      value = λ q has. ap (λ (n : ℕ). get_or (row_of rows q.0) n 0) (kept q has) ∙ r.value q (tail_member p e q has);
    }

-- what a pop adds
pub record Grows (weights : List (List ℕ)) (rows : Rows) (c d : List ℕ) (weight used : ℕ) : Type 0 where
  pub grows : weight_of weights (belows rows d) ≡ weight_of weights (belows rows c) * weight
  pub adds : sum d ≡ sum c + used

-- the values of the cube, and an entry of each variable
cube_grows : (weights : List (List ℕ)) (rows : Rows) (c : List ℕ) (e : Cube) → length weights ≡ length rows
    → length c ≡ length rows → IsStrictlyIncreasing (variables e) → Reads rows c e
    → Grows weights rows c (pop c e) (cube_weight weights e) (length e)
cube_grows weights rows c [] e size rising r =
    let same : pop c [] ≡ c = pop_none c in
    let one = mul_comm (weight_of weights (belows rows c)) 1 in
    let total = ap (λ (d : List ℕ). sum d) same in
    record {
      grows = ap (λ (d : List ℕ). weight_of weights (belows rows d)) same ∙ (let s : weight_of weights (belows rows c) ≡ weight_of weights (belows rows c) * 1 = omega (arith, one) in s);
      adds = omega (arith, total);
    }
cube_grows weights rows c (p ∷ e) count size rising r =
    let v : ℕ = p.0 in
    let d : List ℕ = bump c v in
    let below : v < length c = r.known p (head_member p e) in
    let same : pop c (p ∷ e) ≡ pop d e = pop_bumps c p e rising below in
    let long : length d ≡ length c = length-set c v (suc (cursor c v)) in
    let rest : Grows weights rows d (pop d e) (cube_weight weights e) (length e) =
    cube_grows weights rows d e count (long ∙ size) (rising_tail (λ (q : ℕ × ℕ). q.0) p e rising)
    (reads_rest rows c p e rising r) in
    let first : weight_of weights (belows rows d) ≡ weight_of weights (belows rows c) * get_or (row_of weights v) p.1 0 =
    weight-bump weights rows c v count size below (r.inside p (head_member p e))
    ∙ ap (λ (x : ℕ). weight_of weights (belows rows c) * get_or (row_of weights v) x 0) (r.value p (head_member p e)) in
    let more = sum-bump c v below in
    let total = ap (λ (b : List ℕ). sum b) same in
    let adds = rest.adds in
    record {
      grows = ap (λ (b : List ℕ). weight_of weights (belows rows b)) same ∙ rest.grows
          ∙ ap (λ (n : ℕ). n * cube_weight weights e) first
          ∙ mul_assoc (weight_of weights (belows rows c)) (get_or (row_of weights v) p.1 0) (cube_weight weights e);
      adds = omega (arith, more, total, adds);
    }

module _ (f : Frame) (frame : IsFrame f) (rows : Rows) (weights : List (List ℕ)) (count : length weights ≡ length rows)
    (fit : length f.weights ≡ length rows) where
  -- a poppable event reads its values
  reads_at : (c : List ℕ) (r : LogRecord) → length c ≡ length rows → IsLegal (over f rows) c (r ∷ [])
      → Reads rows c r.event.cube
  reads_at c r size legal =
      let e : Cube = r.event.cube in record {
        known = λ p has.
            let low = known_variable (stacks_of f []) f.family frame.fits r.event legal.0.event p.0 (names_it e p has) in
            omega (arith, low, size, fit);
        inside = λ p has.
            let next : cursor c p.0 + 1 < length (row_of rows p.0) =
            All-contains (λ (q : ℕ × ℕ). cursor c q.0 + 1 < length (row_of rows q.0)) e p legal.0.poppable.next has in
            omega (arith, next);
        value = λ p has.
            All-contains (λ (q : ℕ × ℕ). value_at (stacks_of f rows) q.0 (cursor c q.0) ≡ q.1) e p
            legal.0.poppable.occurs has;
      }

  -- a legal log reads the values of its records
  pub log_grows : (c : List ℕ) (log : List LogRecord) → length c ≡ length rows → IsLegal (over f rows) c log
      → Grows weights rows c (replay c log) (log_weight weights log) (used_by log)
  log_grows c [] size legal =
      let one = mul_comm (weight_of weights (belows rows c)) 1 in
      record { grows = omega (arith, one); adds = omega arith }
  log_grows c (r ∷ log) size legal =
      let e : Cube = r.event.cube in
      let here : Grows weights rows c (pop c e) (cube_weight weights e) (length e) =
      cube_grows weights rows c e count size (event_cube f.family r.event frame.family legal.0.event).rising
      (reads_at c r size (legal.0, tt)) in
      let rest : Grows weights rows (pop c e) (replay (pop c e) log) (log_weight weights log) (used_by log) =
      log_grows (pop c e) log (length-pop c e ∙ size) legal.1 in
      let a = here.adds in
      let b = rest.adds in
      record {
        grows = rest.grows ∙ ap (λ (n : ℕ). n * log_weight weights log) here.grows
            ∙ mul_assoc (weight_of weights (belows rows c)) (cube_weight weights e) (log_weight weights log);
        adds = omega (arith, a, b);
      }
