-- Words of `serve` that are asked as they should be.
use Rattle.std.proofs.Common.{◌≡◌, [], ◌∷◌, refl}
use Rattle.std.specs.Prelude.{Some, None, codes}
use Rattle.qd_decimal.specs.Reading.{count_of, whole_at, digits_end}
use Rattle.qd_words.specs.ServeAsking.{asks_serve}

two_links : asks_serve (codes "serve" ∷ codes "A" ∷ codes "--links" ∷ codes "2" ∷ [])
    ≡ Some (record { addr = codes "A"; values = record { links = 2; up = None; stripes = 1; cap = 1024; hcap = 1024; scheme = None } })
unfolding asks_serve count_of whole_at digits_end
two_links = refl

all_options : asks_serve (codes "serve" ∷ codes "--up=B" ∷ codes "--links=128" ∷ codes "--stripes" ∷ codes "4" ∷ codes "--cap=8" ∷ codes "--hcap=9" ∷ codes "A" ∷ [])
    ≡ Some (record { addr = codes "A"; values = record { links = 128; up = Some (codes "B"); stripes = 4; cap = 8; hcap = 9; scheme = None } })
unfolding asks_serve count_of whole_at digits_end
all_options = refl

no_links : asks_serve (codes "serve" ∷ codes "A" ∷ []) ≡ None
unfolding asks_serve count_of whole_at digits_end
no_links = refl

links_of_0 : asks_serve (codes "serve" ∷ codes "A" ∷ codes "--links=0" ∷ []) ≡ None
unfolding asks_serve count_of whole_at digits_end
links_of_0 = refl

too_many_links : asks_serve (codes "serve" ∷ codes "A" ∷ codes "--links=129" ∷ []) ≡ None
unfolding asks_serve count_of whole_at digits_end
too_many_links = refl
