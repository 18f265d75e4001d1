-- Paths go on along an edge, and lead back.
-- From each end of an edge the other is reached, so a path read from its end joins the same vertices the other way.
use Rattle.std.proofs.Common.{◌≡◌, inl, inr, ℕ, Bool, true, false, cond, nat_eq, List, [], ◌∷◌, ◌++◌, refl, sym, ap, ◌∙◌, subst}
use Rattle.std.specs.Prelude.{Contains}
use Rattle.std.proofs.lemmas.Bool.{or_cases, or_left, or_right, eqb-true, eq-eqb}
use Rattle.graph_read.specs.declared.edge.Edge.{Edge}
use Rattle.graph_read.specs.Graphs.{GraphOf}
use Rattle.graph_read.specs.Incidence.{touches, other_end}
use Rattle.graph_read.specs.Laws.{JoinedBothWays}
use Rattle.graph_read.specs.Paths.{IsPath, IsJoined}

-- a path goes on along an edge
path_more : (g : GraphOf) (a : ℕ) (path : List Edge) (v : ℕ) (e : Edge) → IsPath g a path v → Contains g.edges e
    → touches e v ≡ true → IsPath g a (path ++ e ∷ []) (other_end e v)
path_more g a [] v e same has touch = (has, ap (touches e) same ∙ touch, ap (other_end e) same)
path_more g a (x ∷ path) v e p has touch = (p.0, p.1, path_more g (other_end x a) path v e p.2 has touch)

-- what a vertex is joined to goes on along an edge
pub joined_more : (g : GraphOf) (a v : ℕ) (e : Edge) → IsJoined g a v → Contains g.edges e → touches e v ≡ true
    → IsJoined g a (other_end e v)
joined_more g a v e j has touch = (j.0 ++ e ∷ [], path_more g a j.0 v e j.1 has touch)

-- the edge leads from x to a
record LeadsTo (e : Edge) (x a : ℕ) : Type 0 where
  touch : touches e x ≡ true
  back : other_end e x ≡ a

-- an edge leads back from its other end
leads_back : (e : Edge) (a : ℕ) → touches e a ≡ true → LeadsTo e (other_end e a) a
leads_back e a touch = by (nat_eq e.u a) refl
  where
    from_to : (b : Bool) → e.u ≡ a → nat_eq e.u e.v ≡ b → cond b e.v e.u ≡ a
    from_to true is h = sym (eqb-true e.u e.v h) ∙ is
    from_to false is h = is

    by : (b : Bool) → nat_eq e.u a ≡ b → LeadsTo e (cond b e.v e.u) a
    by true h =
        record {
          touch = or_right (nat_eq e.u e.v) (nat_eq e.v e.v) (eq-eqb e.v e.v refl);
          back = from_to (nat_eq e.u e.v) (eqb-true e.u a h) refl;
        }
    by false h =
        record {
          touch = or_left (nat_eq e.u e.u) (nat_eq e.v e.u) (eq-eqb e.u e.u refl);
          back = ap (λ b. cond b e.v e.u) (eq-eqb e.u e.u refl) ∙ elim (or_cases (nat_eq e.u a) (nat_eq e.v a) touch) [
            | inl t ↦ absurd (let both : true ≡ false = sym t ∙ h in cc)
            | inr t ↦ eqb-true e.v a t
          ];
        }

-- a path leads back, edge by edge
path_back : (g : GraphOf) (a : ℕ) (path : List Edge) (b : ℕ) → IsPath g a path b → IsJoined g b a
path_back g a [] b same = ([], sym same)
path_back g a (e ∷ path) b p =
    let leads = leads_back e a p.1 in
    subst (IsJoined g b) leads.back
    (joined_more g b (other_end e a) e (path_back g (other_end e a) path b p.2) p.0 leads.touch)

-- paths lead both ways
pub joined_both_ways : JoinedBothWays
joined_both_ways g a b j = path_back g a j.0 b j.1
