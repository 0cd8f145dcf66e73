-- A new hub that one thread has stands for empty lists.
use Rattle.std.proofs.Common.{ℕ, ◌≡◌, ◌<◌, [], refl, subst}
use Rattle.qd_gate.specs.declared.machine.Terms.{Terms}
use Rattle.qd_gate.specs.Passes.{Pass}
use Rattle.qd_row.specs.Passes.{IsFirst}
use Rattle.qd_ticker.specs.Legal.{no_terms}
use Rattle.qd_hub.specs.Configs.{Sizes, stream_terms, history_terms}
use Rattle.qd_hub.specs.Hubs.{TickerPass, StreamPass, HistoryPass}
use Rattle.qd_path.specs.Lists.{Lists, AreOf}
use Rattle.qd_replay.specs.Settings.{AreEmpty}

-- a pass that has seen nothing and made no call
abbrev pub first_pass : {O R : Type 0} → Terms → Pass O R
first_pass terms = record { home = record { words = 0; slots = 0; views_name = 0; atom = 0; block = 0; offset = 0; slot_names = [] }; number = 0; terms = terms; start = 0; seen = []; mine = []; looked = [] }

is_first : {O R : Type 0} (terms : Terms) → IsFirst terms (first_pass {O = O} {R = R} terms)
is_first terms = record { terms_are = refl; start = refl; number = refl; seen = refl; mine = refl; looked = refl }

abbrev pub new_lists : Sizes → Lists
new_lists sizes = record { ticker = λ i. first_pass no_terms; stream = λ i. first_pass (stream_terms sizes); history = λ i. first_pass (history_terms sizes) }

module _ (sizes : Sizes) (n : ℕ) (T : ℕ → TickerPass → Type 0) (S : ℕ → StreamPass → Type 0) (H : ℕ → HistoryPass → Type 0) (same : n ≡ sizes.stripes)
    (t : (i : ℕ) (p : TickerPass) → i < sizes.stripes → IsFirst no_terms p → T i p) (s : (i : ℕ) (p : StreamPass) → i < sizes.stripes → IsFirst (stream_terms sizes) p → S i p)
    (h : (i : ℕ) (p : HistoryPass) → i < sizes.stripes → IsFirst (history_terms sizes) p → H i p) where
  pub new_are : AreOf n T S H (new_lists sizes)
  new_are = record {
    on_ticker = λ i w. t i _ (subst (λ (k : ℕ). i < k) same w) (is_first no_terms);
    on_stream = λ i w. s i _ (subst (λ (k : ℕ). i < k) same w) (is_first (stream_terms sizes));
    on_history = λ i w. h i _ (subst (λ (k : ℕ). i < k) same w) (is_first (history_terms sizes));
  }

pub new_empty : (sizes : Sizes) (n : ℕ) → AreEmpty n (new_lists sizes)
new_empty sizes n = record { on_ticker = λ i w. refl; on_stream = λ i w. refl; on_history = λ i w. refl }
