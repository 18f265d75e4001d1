-- A step of the code, by what it reads: where the walk goes on, or that it is over. The walk w has put its variable onto
-- its path, which gave n; a cycle that the path of n closes is popped or noted.
use Rattle.std.proofs.Common.{inl, inr, ◌≡◌, ℕ, zero, suc, ◌+◌, ◌<◌, Bool, true, false, cond, length, get_or, set, refl, sym, ap, subst, ◌∙◌, arith, get_or-set_same, get_or-set_other, length-set, ne_eqb}
use Rattle.std.specs.Bool.{MatchBool}
use Rattle.std.specs.List.{slice_range}
use Rattle.std.proofs.lemmas.Bool.{cases_eq, MatchBool-at_true, MatchBool-at_false}
use Rattle.pop_model.specs.Popping.{Cube, IsPoppable, HasNext, pop}
use Rattle.pop_model.proofs.Room.{left_from}
use Rattle.std.proofs.lemmas.List.Elements.{Contains-push_cases}
use Rattle.confluence_core.specs.Walks.{cycle_event, IsSettled, Closes}
use Rattle.confluence_core.specs.LoopErasedWalks.{StaySettled, IsSized, HasDone, Walks, begun_at}
use Rattle.confluence_core.specs.Steps.{RunsOn, LeadsTo, Extends, Pops, Notes, Closed, GoesTo, Ends, with_pop, with_stuck}
use Rattle.confluence_core.specs.declared.walk.Walk.{Walk}
use Rattle.confluence_core.specs.declared.walked.Walked.{Walked}
use Rattle.confluence_core.specs.declared.steps.Step.TheVariants.{On, Back, Rests}
use Rattle.confluence_core.proofs.PathsLemmas.{room_for_more, pushed_stay, pushed_before, places_few}
use Rattle.confluence_core.proofs.ClosedLoops.{IsClosed, loop_of}
use Rattle.confluence_core.proofs.DoneVariables.{done_same, done_rests, done_stuck, done_popped, last_popped}
use Rattle.confluence_core.proofs.LoopCubes.{cube_occurs}
use Rattle.confluence_core.proofs.WalkSteps.{closes_here, sized_popped, sized_same, pop_falls, work_falls, popped_goes_on, popped_off}
use Rattle.confluence_core.proofs.Runnings.{runs_noted, runs_popped}

-- where the walk began, once it has a path
begun_later : (w : Walk) → 0 < w.depth → begun_at w ≡ get_or w.path.items 0 0
begun_later w some =
    ap (λ b. cond b w.at (get_or w.path.items 0 0)) (ne_eqb w.depth 0 (λ none. absurd (omega arith)))

-- before it has one
begun_first : (w : Walk) → w.depth ≡ 0 → begun_at w ≡ w.at
begun_first w none = ap (λ d. begun_at (record w { depth = d })) none

-- with one variable more on the path it began there too
begun_pushed : (w : Walk) → w.depth < length w.path.items → get_or (set w.path.items w.depth w.at) 0 0 ≡ begun_at w
begun_pushed w within = elim (cases_eq w.depth 0) [
  | inl none ↦
      ap (λ d. get_or (set w.path.items d w.at) 0 0) none
      ∙ get_or-set_same w.path.items 0 w.at 0 (omega arith) ∙ sym (begun_first w none)
  | inr some ↦
      get_or-set_other w.path.items w.depth 0 w.at 0 (λ e. absurd (omega arith))
      ∙ sym (begun_later w (omega arith))
]

-- at whatever place of its path the walk goes on, it began at the first
begun_back : (w : Walk) (place : ℕ) → begun_at (record w { depth = place; at = get_or w.path.items place 0 })
    ≡ get_or w.path.items 0 0
begun_back w zero = refl
begun_back w (suc place) =
    begun_later (record w { depth = suc place; at = get_or w.path.items (suc place) 0 }) (omega arith)

-- a cycle was popped or noted: the pops are legal, what is settled stays so, and the arrows are the same
pub record WentBack (old new : Walk) (Next : Type 0) : Type 0 where
  pub next : Next
  pub runs : RunsOn old.current old.walked new.walked
  pub stay : StaySettled old new
  pub current : new.current ≡ old.current

-- the walk goes on from a place of its path
pub record GoesBack (old new : Walk) (place : ℕ) : Type 0 where
  pub within : place < length new.path.items
  pub goes : GoesTo old (record new { depth = place; at = get_or new.path.items place 0 })

module _ {w n : Walk} (walks : Walks w) (ext : Extends w n) where
  -- the walk with the new marks and the new path
  abbrev went : Walk
  went = record w { marks = n.marks; path = n.path }

  -- a step settles no variable, and none less
  went_stay : StaySettled w went
  went_stay u at = subst (λ xs. IsSettled xs u) (sym ext.marks) (pushed_stay walks.sized walks.goes_on u at)

  went_before : StaySettled went w
  went_before u at = pushed_before walks.sized walks.goes_on u (subst (λ xs. IsSettled xs u) ext.marks at)

  -- the sizes are as they were
  went_sized : IsSized went
  went_sized = sized_same (ap length ext.marks ∙ length-set w.marks.items w.at (w.depth + 1))
      (ap length ext.path ∙ length-set w.path.items w.depth w.at) walks.sized

  pub extended_sized : IsSized n
  extended_sized = subst IsSized (sym ext.others) went_sized

  -- and so are the variables that are done
  went_done : HasDone went
  went_done = done_same went_stay went_before walks.done

  -- the walk began where its path begins
  went_begun : get_or n.path.items 0 0 ≡ begun_at w
  went_begun =
      let room = room_for_more walks.sized walks.goes_on in
      ap (λ xs. get_or xs 0 0) ext.path ∙ begun_pushed w (omega (arith, room, walks.sized.places_are))

  -- the walk goes on
  pub advances_on : (v : ℕ) → LeadsTo n (On v) → GoesTo w (record n { depth = n.depth + 1; at = v })
  advances_on v leads =
      let room = room_for_more walks.sized walks.goes_on in
      let next : Walk = record went { depth = w.depth + 1; at = v } in
      subst (λ (x : Walk). GoesTo w (record x { depth = x.depth + 1; at = v })) (sym ext.others) (record {
        walks = record {
          sized = went_sized;
          goes_on = subst (λ (x : Walk). LeadsTo x (On v)) ext.others leads;
          done = went_done;
          last = walks.last;
          room = walks.room;
        };
        begun = begun_later next (omega arith) ∙ went_begun;
        nearer = omega (arith, room);
      })

  -- the walk is over where all is settled
  pub advances_rests : LeadsTo n Rests → Ends w n
  advances_rests leads =
      let there : LeadsTo went Rests = subst (λ (x : Walk). LeadsTo x Rests) ext.others leads in
      subst (Ends w) (sym ext.others) (record {
        over = record {
          sized = went_sized;
          trail = there.0;
          done = done_rests w.depth there.0 went_done there.1;
          last = walks.last;
          room = walks.room;
        };
        begun = went_begun;
      })

  module _ (place : ℕ) (leads : LeadsTo n (Back place)) where
    closes : Closes w.current w.walked.cursors n.marks.items n.path.items w.depth place
    closes = subst (λ (x : Walk). LeadsTo x (Back place)) ext.others leads

    -- the cycle that the path closes
    abbrev went_cycle : Cube
    went_cycle = loop_of w.current w.walked.cursors n.path.items w.depth place

    -- its variables are a loop
    went_loop : IsClosed w.current w.walked.cursors n.path.items w.depth place went_cycle
    went_loop = closes_here went_sized closes

    -- where the cycle can't be popped the walk is over
    advances_noted : (w.walked.pops < w.walked.limit → HasNext w.current.stacks w.walked.cursors went_cycle → ⊥)
        → Ends w (record went { walked = with_stuck w.walked went_cycle })
    advances_noted last = record {
      over = record {
        sized = went_sized;
        trail = closes.trail;
        done = done_stuck w.depth closes.trail went_done (places_few walks.sized walks.goes_on) closes went_loop;
        last = λ few f has. elim (Contains-push_cases w.walked.stuck (cycle_event went_cycle) f has) [
          | inl before ↦ walks.last few f before
          | inr this ↦ subst (λ g. HasNext w.current.stacks w.walked.cursors g.cube → ⊥) this (last few)
        ];
        room = walks.room;
      };
      begun = went_begun;
    }

    -- where it is popped the walk goes on from where it closed
    advances_popped : w.walked.pops < w.walked.limit → HasNext w.current.stacks w.walked.cursors went_cycle
        → GoesTo w (record went {
          walked = with_pop w.walked went_cycle;
          depth = place;
          at = get_or n.path.items place 0;
        })
    advances_popped few next =
        let places = places_few walks.sized walks.goes_on in
        let off = popped_off places closes went_loop in
        let falls = pop_falls went_sized.cursors.count went_loop next in
        let room = walks.room in
        record {
          walks = record {
            sized = sized_popped went_cycle next went_sized;
            goes_on = popped_goes_on places closes went_loop;
            done = done_popped went_cycle off went_done;
            last = λ few' f has. last_popped went_cycle off went_done (walks.last few) f has;
            room = omega (arith, falls, room);
          };
          begun = begun_back went place ∙ went_begun;
          nearer = work_falls (length w.current.heads) (left_from w.current.stacks 0 w.walked.cursors)
              (left_from w.current.stacks 0 (pop w.walked.cursors went_cycle)) w.depth place falls;
        }

    -- what was done with the cycle
    module _ (left : Walked) (popped : Bool)
        (by : Closed n.current n.walked left (slice_range n.path.items place (n.depth + 1)) popped) where
      closed_by : MatchBool popped (Pops w.current w.walked left went_cycle) (Notes w.current w.walked left went_cycle)
      closed_by =
          subst (λ (x : Walk). Closed x.current x.walked left (slice_range x.path.items place (x.depth + 1)) popped)
          ext.others by went_cycle went_loop.cube

      -- all else stays as the step left it, and so do what is settled and the arrows
      went_back : (Next : Walk → Type 0) → RunsOn w.current w.walked left → Next (record went { walked = left })
          → WentBack w (record n { walked = left }) (Next (record n { walked = left }))
      went_back Next runs next =
          let others : record n { walked = left } ≡ record went { walked = left } =
          ap (λ (x : Walk). record x { walked = left }) ext.others in
          record {
            next = subst Next (sym others) next;
            runs = runs;
            stay = subst (StaySettled w) (sym others) went_stay;
            current = ap (λ (x : Walk). x.current) others;
          }

      -- it was popped, which is legal, and the walk goes on from where it closed
      pub goes_back : popped ≡ true
          → WentBack w (record n { walked = left }) (GoesBack w (record n { walked = left }) place)
      goes_back was =
          let pops : Pops w.current w.walked left went_cycle = MatchBool-at_true _ _ was closed_by in
          let room = room_for_more walks.sized walks.goes_on in
          let order = closes.order in
          let legal : IsPoppable w.current.stacks w.walked.cursors went_cycle =
          record { occurs = cube_occurs w.current w.walked.cursors _ went_cycle went_loop.cube; next = pops.next } in
          went_back (λ x. GoesBack w x place)
          (subst (RunsOn w.current w.walked) (sym pops.popped) (runs_popped pops.few (went_loop.cycle, refl) legal))
          (record {
            within = omega (arith, room, order, went_sized.places_are);
            goes = subst (λ x. GoesTo w (record went { walked = x; depth = place; at = get_or n.path.items place 0 }))
                (sym pops.popped) (advances_popped pops.few pops.next);
          })

      -- it was noted, with no pop, and the walk is over
      pub ends_back : popped ≡ false → WentBack w (record n { walked = left }) (Ends w (record n { walked = left }))
      ends_back was =
          let notes : Notes w.current w.walked left went_cycle = MatchBool-at_false _ _ was closed_by in
          went_back (Ends w) (runs_noted went_cycle notes.noted)
          (subst (λ x. Ends w (record went { walked = x })) (sym notes.noted) (advances_noted notes.last))
