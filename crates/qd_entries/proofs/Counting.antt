-- How many nodes a stock has.
use Rattle.std.proofs.Common.{◌≡◌, ℕ, ◌+◌, ◌≤◌, List, [], ◌∷◌, ◌++◌, length, arith, Box, ap, ◌∙◌}
use Rattle.std.specs.Prelude.{Result, Ok, Err, is_ok, IsOk, if◌then◌else◌}
use Rattle.std.specs.declared.alloc.Global.{Global}
use Rattle.std.specs.List.{sum_by}
use Rattle.std.proofs.lemmas.List.Sums.{sum_by-cons, sum_by_push}
use Rattle.qd_entries.specs.declared.tree.Node.{Node}
use Rattle.qd_entries.specs.Nodes.{node_count}

abbrev pub total : List (Box Node Global) → ℕ
total bs = sum_by (λ b. node_count b.value) bs

-- each node counts itself
pub length-le-total : (bs : List (Box Node Global)) → length bs ≤ total bs
length-le-total [] = omega arith
length-le-total (b ∷ bs) = omega (arith, length-le-total bs, sum_by-cons (λ (x : Box Node Global). node_count x.value) b bs)

-- one more node
pub total-push : {T E : Type 0} (r : Result T E) (xs ys : List (Box Node Global)) (b : Box Node Global) → IsOk r
    → ys ≡ (if is_ok r then xs ++ b ∷ [] else xs) → total ys ≡ total xs + node_count b.value
total-push (Ok x) xs ys b h e = ap total e ∙ sum_by_push (λ (x : Box Node Global). node_count x.value) xs b
total-push (Err x) xs ys b h e = cc h
