use Rattle.std.proofs.Common.{◌≡◌, ◌+◌, ◌≤◌, ◌++◌, length, drop}
use Rattle.claim_words.specs.Maps.{Each}
use Rattle.claim_words.specs.KeptLogs.{IsWhole, tickets_of, many_uses}
use Rattle.claim_words.proofs.KeptLogsLemmas.{Left}
use Rattle.claim_words.proofs.kept_log.KeptLog.put_tickets.Given as goal

-- those made so far, and those that are left
abbrev pub invariant-loop-head : goal.invariant-loop-head
invariant-loop-head l = record {
  all : l.tickets ++ Left l.self-inside.heads.items l.self-inside.uses.items l.head-index l.at
      ≡ tickets_of l.self-inside.heads.items l.self-inside.uses.items;
  fit : l.at + many_uses (drop l.head-index l.self-inside.heads.items) ≤ length l.self-inside.uses.items;
  whole : Each IsWhole (Left l.self-inside.heads.items l.self-inside.uses.items l.head-index l.at);
}
