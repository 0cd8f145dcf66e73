-- What a connection that was dialled and hung up leaves of the net.
use Rattle.std.proofs.Common.{◌≡◌, ◌<◌, ◌+◌, ℕ, List, [], ◌∷◌, ◌++◌, Option, Some, None, sym, ◌∙◌, ap, subst, arith}
use Rattle.qd_net.specs.Meeting.{NetState, Ends, GivesFirst, IsListOf, IsUnwritten, one_more}
use Rattle.qd_outside.specs.Causes.{Rose}
use Rattle.qd_outside.specs.Writing.{Gained}
use Rattle.qds_net.specs.Connections.{IsConnection, IsSentOnce}

-- a count that is one more rose
one_more_rose : (n later : ℕ) → later ≡ one_more n → Rose n later
one_more_rose n later e = omega (arith, e)

-- a count that rose from 0 is positive
pub rose_some : (n : ℕ) → Rose 0 n → 0 < n
rose_some n p = omega (arith, p)

-- a half with a fault is counted where it is hung up
pub faulty_rose : (addr : List ℕ) (list was sent : Option (List ℕ)) (reads sends : ℕ) (net later : NetState) → IsConnection addr list was sent reads sends net later → 0 < reads + sends → Rose net.hang_up_faults later.hang_up_faults
faulty_rose addr list was sent reads sends net later i p =
    let same : i.dialled.hang_up_faults ≡ net.hang_up_faults = ap (λ (t : NetState). t.hang_up_faults) i.connects.same in
    one_more_rose net.hang_up_faults later.hang_up_faults (i.hung_up.faulty p ∙ ap one_more same)

pub read_rose : (addr : List ℕ) (list was sent : Option (List ℕ)) (reads sends : ℕ) (net later : NetState) → IsConnection addr list was sent reads sends net later → Rose 0 reads → Rose net.hang_up_faults later.hang_up_faults
read_rose addr list was sent reads sends net later i p = faulty_rose addr list was sent reads sends net later i (let q = rose_some reads p in omega (arith, q))

pub send_rose : (addr : List ℕ) (list was sent : Option (List ℕ)) (reads sends : ℕ) (net later : NetState) → IsConnection addr list was sent reads sends net later → Rose 0 sends → Rose net.hang_up_faults later.hang_up_faults
send_rose addr list was sent reads sends net later i p = faulty_rose addr list was sent reads sends net later i (let q = rose_some sends p in omega (arith, q))

-- one more connection was given
pub opened_one : (addr : List ℕ) (list was sent : Option (List ℕ)) (reads sends : ℕ) (net later : NetState) → IsConnection addr list was sent reads sends net later → later.opened ≡ one_more net.opened
opened_one addr list was sent reads sends net later i = ap (λ (t : NetState). t.opened) i.hung_up.same ∙ i.connects.opened

-- one list stands behind those before it
ended_by : (sent later : Option (List ℕ)) (now : Option (List (List ℕ))) (lists : List (List ℕ)) → Ends sent (Some lists) now → (text : List ℕ) × (sent ≡ Some text) × (now ≡ Some (lists ++ text ∷ []))
ended_by sent later None lists h = absurd h
ended_by sent later (Some now) lists (text, s, e) = (text, s, ap Some e)

pub ended_one : (addr : List ℕ) (list was sent : Option (List ℕ)) (reads sends : ℕ) (net later : NetState) → IsConnection addr list was sent reads sends net later
    → (lists : List (List ℕ)) → net.ended ≡ Some lists → (text : List ℕ) × (sent ≡ Some text) × (later.ended ≡ Some (lists ++ text ∷ []))
ended_one addr list was sent reads sends net later i lists e =
    let same : i.dialled.ended ≡ Some lists = ap (λ (t : NetState). t.ended) i.connects.same ∙ e in
    ended_by sent sent later.ended lists (subst (λ (x : Option (List (List ℕ))). Ends sent x later.ended) same i.hung_up.ended)

-- all that was written to a new connection is what it gained
gained_first : (list was : Option (List ℕ)) (all text : List ℕ) → IsUnwritten list was → Gained was (Some all) text → all ≡ text
gained_first list None all text u g = absurd g
gained_first None (Some b) all text u g = g ∙ ap (λ (x : List ℕ). x ++ text) u
gained_first (Some l) (Some b) all text u g = g ∙ ap (λ (x : List ℕ). x ++ text) u

pub sent_once : (addr : List ℕ) (list was sent : Option (List ℕ)) (reads sends : ℕ) (net later : NetState) (text : List ℕ) → IsConnection addr list was sent reads sends net later → Gained was sent text → IsSentOnce text net later
sent_once addr list was sent reads sends net later text i g lists e = go (ended_one addr list was sent reads sends net later i lists e)
  where
    go : (all : List ℕ) × (sent ≡ Some all) × (later.ended ≡ Some (lists ++ all ∷ [])) → later.ended ≡ Some (lists ++ text ∷ [])
    go (all, s, l) = l ∙ ap (λ (x : List ℕ). Some (lists ++ x ∷ [])) (gained_first list was all text i.unwritten (subst (λ (x : Option (List ℕ)). Gained was x text) s g))

-- the connection is that of the first list to come
first_list : (coming now : Option (List (List ℕ))) (list : Option (List ℕ)) (text : List ℕ) (more : List (List ℕ)) → coming ≡ Some (text ∷ more) → GivesFirst coming now list → list ≡ Some text
first_list coming now list text more e g = go now (subst (λ (x : Option (List (List ℕ))). GivesFirst x now list) e g)
  where
    go : (n : Option (List (List ℕ))) → GivesFirst (Some (text ∷ more)) n list → list ≡ Some text
    go None h = absurd h
    go (Some n) (first, p, q) = let same : text ≡ first = cc in q ∙ ap Some (sym same)

pub comes_first : (addr : List ℕ) (list left was sent : Option (List ℕ)) (reads sends : ℕ) (net later : NetState) (text : List ℕ) (more : List (List ℕ)) → IsConnection addr list was sent reads sends net later → IsListOf list left → net.coming ≡ Some (text ∷ more) → left ≡ Some text
comes_first addr list left was sent reads sends net later text more i l e = subst (λ (x : Option (List ℕ)). IsListOf x left) (first_list net.coming i.dialled.coming list text more e i.connects.first) l
