-- An answer that the sink holds, and the status of the call: that of the answer, or of a fault of the sink.
use Rattle.std.proofs.Common.{inl, inr, ◌≡◌, ◌≢◌, ◌⊎◌, ◌≤◌, ℕ, List, Option, sym, subst, arith}
use Rattle.std.specs.Io.KnownBytes.{Appends}
use Rattle.pop_watch.specs.Telling.{Watcher}
use Rattle.told_runs.specs.Outcomes.{IsAnswerStatus, HasRun}
use Rattle.top_call.specs.Answers.{IsAnswer}
use Rattle.top_call.specs.TopCall.{Answered}

-- the sink holds the text of the answer more, and the result is its status
pub held_answer : (words : List (List ℕ)) (ws : List Watcher) (text : List ℕ) (status result : ℕ) (out bytes : List ℕ)
    (old new : Option (List ℕ)) → result ≡ status → bytes ≡ out → IsAnswer words ws text status out
    → Appends old new bytes → Answered words ws text old new result
held_answer words ws text status result out bytes old new status_is bytes_are answer held =
    record {
      out = out;
      answer = subst (λ n. IsAnswer words ws text n out) (sym status_is) answer;
      held = subst (Appends old new) bytes_are held;
    }

-- the status of an answer isn't that of a fault of the sink
pub not_unwritten : (status : ℕ) → IsAnswerStatus status → status ≢ 8
not_unwritten status (inl low) is = absurd (omega (arith, low, is))
not_unwritten status (inr (inl ten)) is = absurd (omega (arith, ten, is))
not_unwritten status (inr (inr eleven)) is = absurd (omega (arith, eleven, is))

-- what is delivered is that status, or that of a fault of the sink; both are among the statuses
pub delivered_status : (status result : ℕ) → IsAnswerStatus status → (result ≡ status) ⊎ (result ≡ 8) → result ≤ 11
delivered_status status result (inl low) (inl same) = omega (arith, low, same)
delivered_status status result (inr (inl ten)) (inl same) = omega (arith, ten, same)
delivered_status status result (inr (inr eleven)) (inl same) = omega (arith, eleven, same)
delivered_status status result answers (inr failed) = omega (arith, failed)

-- and with the status of a run it is that of the answer
pub delivered_run : (status result : ℕ) → (result ≡ status) ⊎ (result ≡ 8) → HasRun result → HasRun status
delivered_run status result (inl same) has = subst HasRun same has
delivered_run status result (inr failed) (inl low) = absurd (omega (arith, failed, low))
delivered_run status result (inr failed) (inr ten) = absurd (omega (arith, failed, ten))
