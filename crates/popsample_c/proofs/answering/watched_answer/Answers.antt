use Rattle.std.proofs.Common.{rules, ℕ, List, map, string_bytes, IfOk, ◌∙◌, ap, subst, refl, inl}
use denote.Param.Object.{read_made}
use Rattle.pop_watch.specs.Telling.{Watcher}
use Rattle.top_call.specs.Answers.{IsAnswer}
use Rattle.popsample_c.proofs.Pushed.{three_read}
use Rattle.popsample_c.proofs.answering.watched_answer.OwnLists.{own-1, at-1-1, at-1-2, at-1-3}
use Rattle.popsample_c.proofs.answering.watched_answer.Goals as goal

-- each box reads as the watcher that was put into it, which is a new one
pub returns-clause-answer : goal.returns-clause-answer
returns-clause-answer c =
    let of_kind : ℕ → List ℕ → Watcher = λ k s. (k, s) in
    let totals = read_made own-1 _ at-1-1 refl Watcher (λ e w. (e.1.kind w, e.1.state w)) _ _ _ c.into_dyn_box.ensures.1 in
    let heights = read_made own-1 _ at-1-2 refl Watcher (λ e w. (e.1.kind w, e.1.state w)) _ _ _ c.into_dyn_box-2.ensures.1 in
    let layers = read_made own-1 _ at-1-3 refl Watcher (λ e w. (e.1.kind w, e.1.state w)) _ _ _ c.into_dyn_box-3.ensures.1 in
    let are_new = three_read _ c.new-watchers.ensures.items c.in_ok-push.ensures.items c.in_ok-push-2.ensures.items
    c.in_ok-push-3.ensures.items (totals ∙ ap (of_kind 1) (search rules)) (heights ∙ ap (of_kind 2) (search rules))
    (layers ∙ ap (of_kind 3) (search rules)) in
    subst (λ (told : List Watcher). IfOk c.answer_alone.result
    (λ a. IsAnswer (map string_bytes c.args.words.now) told c.args.text.now a.status a.text.items))
    are_new (c.answer_alone.ensures.answer c.args.text.now (inl refl))
