-- The calls that are due are made, one after the other.
use Rattle.std.proofs.Common.{ℕ, List, [], ◌∷◌, ◌++◌, map, refl, ap, ◌∙◌}
use Rattle.qd_calls.proofs.Adding.{grew_more, grew_none}
use Rattle.qd_calls.proofs.Growing.{map_more, done_more}
use Rattle.qd_path.specs.declared.call.Asked.{Asked}
use Rattle.qd_path.specs.Lists.{Lists, AreSound}
use Rattle.qd_path.specs.Made.{asked_in, AreDone}
use Rattle.qd_replay.specs.declared.due.Refusal.{Refusal}
use Rattle.qd_replay.specs.Running.{IsRefusal}
use Rattle.qd_replay.specs.Steps.{MadeFirst, MadeSome, MadeUpTo}

pub made_none : (n : ℕ) (due : List Asked) (l : Lists) → AreSound n l → MadeSome n due due l l
made_none n due l sound = record { made = []; due_is = refl; done = tt; grew = grew_none n l sound }

pub made_more : (n : ℕ) (due mid rest : List Asked) (l m k : Lists) → MadeSome n due mid l m → MadeFirst n mid rest (λ x. AreDone (x ∷ [])) m k → MadeSome n due rest l k
made_more n due mid rest l m k s f = record {
  made = s.made ++ f.call ∷ [];
  due_is = s.due_is ∙ ap (λ (x : List Asked). map asked_in s.made ++ x) f.due_is ∙ map_more s.made f.call rest;
  done = done_more s.made f.call s.done f.told.0;
  grew = grew_more n s.made (f.call ∷ []) l m k s.grew f.grew;
}

pub made_up_to : (n : ℕ) (due mid rest : List Asked) (refusal : Refusal) (l m k : Lists) → MadeSome n due mid l m → MadeFirst n mid rest (IsRefusal refusal) m k → MadeUpTo n due refusal l k
made_up_to n due mid rest refusal l m k s f = record {
  made = s.made;
  last = f.call;
  rest = rest;
  due_is = s.due_is ∙ ap (λ (x : List Asked). map asked_in s.made ++ x) f.due_is;
  done = s.done;
  refused = f.told;
  grew = grew_more n s.made (f.call ∷ []) l m k s.grew f.grew;
}
