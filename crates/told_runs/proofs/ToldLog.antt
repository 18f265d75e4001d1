-- Watchers that receive the records of a log, one after another.
use Rattle.std.proofs.Common.{◌≡◌, ℕ, ◌+◌, ◌≤◌, List, [], ◌∷◌, ◌++◌, length, take, map, Some, slice_get, refl, sym, ap, ap₂, ◌∙◌}
use Rattle.std.proofs.lemmas.List.{take_more, take_all}
use Rattle.std.proofs.lemmas.List.Sums.{fold-append}
use Rattle.std.proofs.lemmas.Option.{get_or_from_slice_get, slice_get_within}
use Rattle.pop_model.specs.Logs.{LogRecord}
use Rattle.pop_watch.specs.Watching.{step}
use Rattle.pop_watch.specs.Telling.{Watcher, tell_each, log_told}

-- told no record
pub log_told-nil : (ws : List Watcher) → ws ≡ log_told [] ws
log_told-nil [] = refl
log_told-nil (w ∷ ws) = ap (λ l. w ∷ l) (log_told-nil ws)

-- told one record more
log_told-append : (r : LogRecord) (log : List LogRecord) (ws : List Watcher)
    → tell_each r (log_told log ws) ≡ log_told (log ++ r ∷ []) ws
log_told-append r log [] = refl
log_told-append r log (w ∷ ws) =
    ap₂ (λ (s : List ℕ) l. (w.0, s) ∷ l) (sym (fold-append (step w.0) w.1 log (r ∷ []))) (log_told-append r log ws)

-- told the record at t, where they were told those before it
pub told_more : {A : Type 0} (f : A → Watcher) (ws first new : List A) (log : List LogRecord) (t : ℕ) (r : LogRecord)
    → slice_get log t ≡ Some r → map f ws ≡ log_told (take t log) (map f first)
    → map f new ≡ tell_each r (map f ws) → map f new ≡ log_told (take (t + 1) log) (map f first)
told_more f ws first new log t r at old told =
    let next = take_more log t r (slice_get_within log t r at)
    ∙ ap (λ q. take t log ++ q ∷ []) (get_or_from_slice_get log t r r at) in
    told ∙ ap (tell_each r) old ∙ log_told-append r (take t log) (map f first)
    ∙ ap (λ l. log_told l (map f first)) (sym next)

-- once they were told all records, they were told the log
pub told_all : {A : Type 0} (f : A → Watcher) (ws first : List A) (log : List LogRecord) (t : ℕ) → length log ≤ t
    → map f ws ≡ log_told (take t log) (map f first) → map f ws ≡ log_told log (map f first)
told_all f ws first log t past old = old ∙ ap (λ l. log_told l (map f first)) (take_all t log past)
