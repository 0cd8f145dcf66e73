-- A call that follows the log may stand behind it.
use Rattle.std.proofs.Common.{List, [], ◌∷◌, ◌++◌, sym, subst, append_assoc}
use Rattle.qd_gate.specs.declared.machine.Entry.{Entry}
use Rattle.qd_gate.specs.Logs.{EachFollows}
use Rattle.qd_gate.proofs.Prefixes.{append_nil}

module _ {O R : Type 0} (follows : List (Entry O R) → Entry O R → Type 0) where
  -- a call that follows all that stands before it may stand behind the log
  pub follows_behind : (before log : List (Entry O R)) (e : Entry O R) → EachFollows follows before log → follows (before ++ log) e → EachFollows follows before (log ++ e ∷ [])
  follows_behind before [] e all next = (subst (λ (l : List (Entry O R)). follows l e) (append_nil before) next, tt)
  follows_behind before (x ∷ xs) e all next = (
    all.0,
    follows_behind (before ++ x ∷ []) xs e all.1 (subst (λ (l : List (Entry O R)). follows l e) (sym (append_assoc before (x ∷ []) xs)) next),
  )

  -- the same where nothing stands before the log
  pub each_follows_push : (log : List (Entry O R)) (e : Entry O R) → EachFollows follows [] log → follows log e → EachFollows follows [] (log ++ e ∷ [])
  each_follows_push log e all next = follows_behind [] log e all next
