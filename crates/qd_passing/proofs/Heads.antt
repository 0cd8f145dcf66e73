-- Heads of data are plain, and messages are told apart by their numbers.
use Rattle.std.proofs.Common.{◌≡◌, inl, inr, ℕ, true, nat_eq, if◌then◌else◌, List, refl, sym, ap, ◌∙◌, arith, subst}
use Rattle.std.proofs.lemmas.Bool.Decides.{nat_tests}
use Rattle.qd_scheme.specs.declared.defs.RecordDef.{RecordDef}
use Rattle.qd_grammar.specs.declared.item.Item.TheVariants as items
use Rattle.qd_grammar.specs.declared.item.Message.{Message}
use Rattle.qd_grammar.specs.declared.item.Message.TheVariants.{TickerData, StreamData, HistoryData, StreamLost, TickerAdd, StreamAdd, HistoryAdd, TickerRemove, StreamRemove, HistoryRemove}
use Rattle.qd_grammar.specs.Canonical.{canonical}
use Rattle.qd_grammar.specs.Items.{IsOneOf, data_heads}
use Rattle.qd_path.specs.Texts.{number_of}
use Rattle.qd_passing.specs.Replies.{IsPlainLine}

pub head-plain : (defs : List RecordDef) (message : Message) → IsOneOf message data_heads → IsPlainLine (canonical defs (items.Head message))
unfolding canonical
head-plain defs message (inl e) = subst (λ m. IsPlainLine (canonical defs (items.Head m))) (sym e) (record { one = refl; no_cr = refl; short = omega arith })
head-plain defs message (inr (inl e)) = subst (λ m. IsPlainLine (canonical defs (items.Head m))) (sym e) (record { one = refl; no_cr = refl; short = omega arith })
head-plain defs message (inr (inr (inl e))) = subst (λ m. IsPlainLine (canonical defs (items.Head m))) (sym e) (record { one = refl; no_cr = refl; short = omega arith })
head-plain defs message (inr (inr (inr (inl e)))) = subst (λ m. IsPlainLine (canonical defs (items.Head m))) (sym e) (record { one = refl; no_cr = refl; short = omega arith })
head-plain defs message (inr (inr (inr (inr n)))) = absurd n

pub beat-plain : (defs : List RecordDef) → IsPlainLine (canonical defs items.Heartbeat)
unfolding canonical
beat-plain defs = record { one = refl; no_cr = refl; short = omega arith }

pub protocol-plain : (defs : List RecordDef) → IsPlainLine (canonical defs items.Protocol)
unfolding canonical
protocol-plain defs = record { one = refl; no_cr = refl; short = omega arith }

abbrev message_at : ℕ → Message
message_at n =
    if nat_eq n 0 then TickerData else if nat_eq n 1 then StreamData else if nat_eq n 2 then HistoryData else if nat_eq n 3 then StreamLost else if nat_eq n 4 then TickerAdd
    else if nat_eq n 5 then StreamAdd else if nat_eq n 6 then HistoryAdd else if nat_eq n 7 then TickerRemove else if nat_eq n 8 then StreamRemove else HistoryRemove

numbered : (m : Message) → message_at (number_of m) ≡ m
numbered TickerData = refl
numbered StreamData = refl
numbered HistoryData = refl
numbered StreamLost = refl
numbered TickerAdd = refl
numbered StreamAdd = refl
numbered HistoryAdd = refl
numbered TickerRemove = refl
numbered StreamRemove = refl
numbered HistoryRemove = refl

equal : (m n : ℕ) → nat_eq m n ≡ true → m ≡ n
equal m n h = grind (arith, nat_tests)

pub same-message : (l m : Message) → nat_eq (number_of l) (number_of m) ≡ true → l ≡ m
same-message l m h = sym (numbered l) ∙ ap message_at (equal (number_of l) (number_of m) h) ∙ numbered m
