-- What is known of the entries d of a tree with the node n on top.
use Rattle.std.proofs.Common.{◌≡◌, ℕ, ◌<◌, ◌≤◌, List, ◌∷◌, ◌++◌, sym, ap, ◌∙◌, subst, Option, Some, None}
use Rattle.qd_entries.specs.declared.Entry.{Entry}
use Rattle.qd_scheme.specs.declared.cells.Cells.{Cells}
use Rattle.qd_entries.specs.declared.tree.Node.{Node}
use Rattle.qd_entries.specs.Nodes.{entries_of_node}
use Rattle.qd_entries.specs.Entries.{Falls, cells_at, put_entry, without_index, entry_at_or_below}
use Rattle.qd_entries.proofs.Falling as falling

falls_at : (d : List Entry) (n : Node) → d ≡ entries_of_node n → Falls d → Falls (n.before ++ n.entry ∷ n.after)
falls_at d n e f = subst Falls e f

pub get-middle : (d : List Entry) (n : Node) (i : ℕ) → d ≡ entries_of_node n → i ≡ n.entry.index → Falls d → Some n.entry.cells ≡ cells_at d i
get-middle d n i e h f =
    sym (ap (λ (xs : List Entry). cells_at xs i) e ∙ falling.cells_at-middle n.before n.entry n.after i (falls_at d n e f) h)

pub get-after : (d : List Entry) (n : Node) (i : ℕ) (r : Option Cells) → d ≡ entries_of_node n → i < n.entry.index → (Falls n.after → r ≡ cells_at n.after i) → Falls d → r ≡ cells_at d i
get-after d n i r e h g f =
    let k = falls_at d n e f in
    g (falling.Falls-after n.before n.entry n.after k)
    ∙ sym (ap (λ (xs : List Entry). cells_at xs i) e ∙ falling.cells_at-after n.before n.entry n.after i k h)

pub get-before : (d : List Entry) (n : Node) (i : ℕ) (r : Option Cells) → d ≡ entries_of_node n → n.entry.index < i → (Falls n.before → r ≡ cells_at n.before i) → Falls d → r ≡ cells_at d i
get-before d n i r e h g f =
    let k = falls_at d n e f in
    g (falling.Falls-before n.before n.entry n.after k)
    ∙ sym (ap (λ (xs : List Entry). cells_at xs i) e ∙ falling.cells_at-before n.before n.entry n.after i k h)

pub at_or_below-after : (d : List Entry) (n : Node) (i : ℕ) (r : Option Entry) → d ≡ entries_of_node n → i < n.entry.index → (Falls n.after → r ≡ entry_at_or_below i n.after) → Falls d → r ≡ entry_at_or_below i d
at_or_below-after d n i r e h g f =
    let k = falls_at d n e f in
    g (falling.Falls-after n.before n.entry n.after k)
    ∙ sym (ap (λ (xs : List Entry). entry_at_or_below i xs) e ∙ falling.at_or_below-after n.before n.entry n.after i k h)

pub at_or_below-before : (d : List Entry) (n : Node) (i : ℕ) (x : Entry) → d ≡ entries_of_node n → (Falls n.before → Some x ≡ entry_at_or_below i n.before) → Falls d → Some x ≡ entry_at_or_below i d
at_or_below-before d n i x e g f =
    let k = falls_at d n e f in
    sym (ap (λ (xs : List Entry). entry_at_or_below i xs) e ∙ falling.at_or_below-before n.before n.entry n.after i x (sym (g (falling.Falls-before n.before n.entry n.after k))))

pub at_or_below-middle : (d : List Entry) (n : Node) (i : ℕ) → d ≡ entries_of_node n → n.entry.index ≤ i → (Falls n.before → None ≡ entry_at_or_below i n.before) → Falls d → Some n.entry ≡ entry_at_or_below i d
at_or_below-middle d n i e h g f =
    let k = falls_at d n e f in
    sym (ap (λ (xs : List Entry). entry_at_or_below i xs) e ∙ falling.at_or_below-middle n.before n.entry n.after i h (sym (g (falling.Falls-before n.before n.entry n.after k))))

pub put-middle : (d : List Entry) (n : Node) (x : Entry) → d ≡ entries_of_node n → x.index ≡ n.entry.index → Falls d → n.before ++ x ∷ n.after ≡ put_entry x d
put-middle d n x e h f = sym (ap (λ (xs : List Entry). put_entry x xs) e ∙ falling.put_entry-middle n.before n.entry n.after x (falls_at d n e f) h)

pub put-after : (d r : List Entry) (n : Node) (x : Entry) → d ≡ entries_of_node n → x.index < n.entry.index → (Falls n.after → r ≡ put_entry x n.after) → Falls d → n.before ++ n.entry ∷ r ≡ put_entry x d
put-after d r n x e h g f =
    let k = falls_at d n e f in
    ap (λ (xs : List Entry). n.before ++ n.entry ∷ xs) (g (falling.Falls-after n.before n.entry n.after k))
    ∙ sym (ap (λ (xs : List Entry). put_entry x xs) e ∙ falling.put_entry-after n.before n.entry n.after x k h)

pub put-before : (d r : List Entry) (n : Node) (x : Entry) → d ≡ entries_of_node n → n.entry.index < x.index → (Falls n.before → r ≡ put_entry x n.before) → Falls d → r ++ n.entry ∷ n.after ≡ put_entry x d
put-before d r n x e h g f =
    let k = falls_at d n e f in
    ap (λ (xs : List Entry). xs ++ n.entry ∷ n.after) (g (falling.Falls-before n.before n.entry n.after k))
    ∙ sym (ap (λ (xs : List Entry). put_entry x xs) e ∙ falling.put_entry-before n.before n.entry n.after x h)

pub remove-middle : (d : List Entry) (n : Node) (i : ℕ) → d ≡ entries_of_node n → i ≡ n.entry.index → Falls d → n.before ++ n.after ≡ without_index i d
remove-middle d n i e h f = sym (ap (λ (xs : List Entry). without_index i xs) e ∙ falling.without-middle n.before n.entry n.after i (falls_at d n e f) h)

pub remove-after : (d r : List Entry) (n : Node) (i : ℕ) → d ≡ entries_of_node n → i < n.entry.index → (Falls n.after → r ≡ without_index i n.after) → Falls d → n.before ++ n.entry ∷ r ≡ without_index i d
remove-after d r n i e h g f =
    let k = falls_at d n e f in
    ap (λ (xs : List Entry). n.before ++ n.entry ∷ xs) (g (falling.Falls-after n.before n.entry n.after k))
    ∙ sym (ap (λ (xs : List Entry). without_index i xs) e ∙ falling.without-after n.before n.entry n.after i k h)

pub remove-before : (d r : List Entry) (n : Node) (i : ℕ) → d ≡ entries_of_node n → n.entry.index < i → (Falls n.before → r ≡ without_index i n.before) → Falls d → r ++ n.entry ∷ n.after ≡ without_index i d
remove-before d r n i e h g f =
    let k = falls_at d n e f in
    ap (λ (xs : List Entry). xs ++ n.entry ∷ n.after) (g (falling.Falls-before n.before n.entry n.after k))
    ∙ sym (ap (λ (xs : List Entry). without_index i xs) e ∙ falling.without-before n.before n.entry n.after i k h)
