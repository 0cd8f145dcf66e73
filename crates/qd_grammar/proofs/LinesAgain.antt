-- The texts of an item of a body line are read as the item, form by form.
use Rattle.std.proofs.Common.{◌≡◌, ℕ, ◌+◌, ◌-◌, ◌^◌, Bool, true, false, List, [], ◌∷◌, length, refl, sym, ◌∙◌}
use Rattle.std.specs.Prelude.{decimal, slice_get, Result, Ok}
use lib.IntN.{ℤ}
use Rattle.qd_scheme.specs.declared.defs.RecordDef.{RecordDef}
use Rattle.qd_scheme.specs.declared.defs.FieldKind.{FieldKind}
use Rattle.qd_scheme.specs.declared.key.Key.{Key}
use Rattle.qd_grammar.specs.declared.fault.Fault.{Fault}
use Rattle.qd_grammar.specs.declared.item.Item.{Item}
use Rattle.qd_grammar.specs.declared.item.Item.TheVariants.{Sub, Lost}
use Rattle.qd_grammar.specs.Parts.{Part, Reads, ◌>>=◌}
use Rattle.qd_grammar.specs.Fields.{part_says, cell_of, cell_at, cells_at, count_told, count_at, symbol_told, symbol_at, word_told, word_at, record_told, record_at, flags_told, flags_at, loss_told, loss_at}
use Rattle.qd_grammar.specs.Body.{key_at, record_line, event_line, sub_line, hist_sub_line, lost_line}
use Rattle.qd_grammar.specs.Canonical.{cell_text, cell_texts, name_at, texts_of}
use Rattle.qd_grammar.proofs.Steps.{kinds_of_rec, cells_done, record_item, record_cells, event_item, event_cells, event_flags, event_index, sub_done, number_done, hist_sub_item, hist_sub_limit, lost_count}
use Rattle.qd_grammar.proofs.Binds.{step, Said, part_said, says_again}
use Rattle.qd_grammar.proofs.Tabs.{HaveNoTab, placed}
use Rattle.qd_grammar.proofs.PartsAgain.{Says, IsPlainName, SaysRecord}

-- a reader of one part
pub record ReadsPart {A : Type 0} (reader : Reads A) (says : ℕ → List ℕ → Result A Fault) : Type 0 where
  pub same : (end : ℕ) (parts : List Part) → reader end parts ≡ part_says says end parts

pub count_part : (most : ℕ) → ReadsPart (count_at most) (count_told most)
unfolding count_at
count_part most = record { same = λ end parts. refl }

pub cell_part : (kind : FieldKind) → ReadsPart (cell_at kind) (cell_of kind)
unfolding cell_at
cell_part kind = record { same = λ end parts. refl }

pub symbol_part : ReadsPart symbol_at symbol_told
unfolding symbol_at
symbol_part = record { same = λ end parts. refl }

pub word_part : {A : Type 0} (table : List (List ℕ × A)) → ReadsPart (word_at table) (word_told table)
unfolding word_at
word_part table = record { same = λ end parts. refl }

pub record_part : (hist : Bool) (defs : List RecordDef) → ReadsPart (record_at hist defs) (record_told hist defs)
unfolding record_at
record_part hist defs = record { same = λ end parts. refl }

pub flags_part : ReadsPart flags_at flags_told
unfolding flags_at
flags_part = record { same = λ end parts. refl }

pub loss_part : ReadsPart loss_at loss_told
unfolding loss_at
loss_part = record { same = λ end parts. refl }

pub said : {A : Type 0} {reader : Reads A} {says : ℕ → List ℕ → Result A Fault} → ReadsPart reader says → (end : ℕ) (parts : List Part) (read : A × List Part) → reader end parts ≡ Ok read → Said says read.0 parts read.1
said {says = says} r end parts read e = part_said says end parts read (sym (r.same end parts) ∙ e)

pub reads : {A : Type 0} {reader : Reads A} {says : ℕ → List ℕ → Result A Fault} → ReadsPart reader says → (value : A) (text : List ℕ) → Says says value text → (end place : ℕ) (parts : List Part) → reader end (record { place = place; bytes = text } ∷ parts) ≡ Ok (value, parts)
reads {says = says} r value text h end place parts = r.same end (record { place = place; bytes = text } ∷ parts) ∙ says_again says value end (record { place = place; bytes = text }) parts (h.again place)

-- cells

abbrev pub AreSaid : List FieldKind → List ℤ → Type 0
AreSaid [] [] = Unit {0}
AreSaid [] (value ∷ values) = ⊥
AreSaid (kind ∷ kinds) [] = ⊥
AreSaid (kind ∷ kinds) (value ∷ values) = Says (cell_of kind) value (cell_text kind value) × AreSaid kinds values

cells_again : (kinds : List FieldKind) (values : List ℤ) → AreSaid kinds values → (end place : ℕ) → cells_at kinds end (placed place (cell_texts kinds values)) ≡ Ok (values, [])
cells_again [] [] h end place = refl
cells_again [] (value ∷ values) h end place = absurd h
cells_again (kind ∷ kinds) [] h end place = absurd h
cells_again (kind ∷ kinds) (value ∷ values) h end place =
    let next : ℕ = place + length (cell_text kind value) + 1 in
    step (cell_at kind end (placed place (cell_text kind value ∷ cell_texts kinds values))) (λ (cell : ℤ × List Part). cells_at kinds end cell.1 >>= λ (cells : List ℤ × List Part). Ok (cell.0 ∷ cells.0, cells.1)) (value, placed next (cell_texts kinds values)) (reads (cell_part kind) value (cell_text kind value) h.0 end place (placed next (cell_texts kinds values)))
    ∙ step (cells_at kinds end (placed next (cell_texts kinds values))) (λ (cells : List ℤ × List Part). Ok (value ∷ cells.0, cells.1)) (values, []) (cells_again kinds values h.1 end next)

no_tabs-cells : (kinds : List FieldKind) (values : List ℤ) → AreSaid kinds values → HaveNoTab (cell_texts kinds values)
no_tabs-cells [] [] h = tt
no_tabs-cells [] (value ∷ values) h = absurd h
no_tabs-cells (kind ∷ kinds) [] h = absurd h
no_tabs-cells (kind ∷ kinds) (value ∷ values) h = (h.0.no_tab, no_tabs-cells kinds values h.1)

-- the texts of an item behind its first one are read as the item
pub record IsAgain (line : ℕ → List Part → Result Item Fault) (defs : List RecordDef) (item : Item) (word : List ℕ) : Type 0 where
  pub rest : List (List ℕ)
  pub texts : texts_of defs item ≡ word ∷ rest
  pub no_tabs : HaveNoTab rest
  pub again : (end place : ℕ) → line end (placed place rest) ≡ Ok item

-- keys

pub record IsKeySaid (hist : Bool) (defs : List RecordDef) (key : Key) : Type 0 where
  pub rec : SaysRecord hist defs key.rec
  pub symbol : Says symbol_told key.sym key.sym

-- the first part of a line
abbrev pub first_part : List ℕ → Part
first_part text = record { place = 1; bytes = text }

key_again : (hist : Bool) (defs : List RecordDef) (key : Key) → IsKeySaid hist defs key → (end place : ℕ) (texts : List (List ℕ)) → key_at hist defs end (first_part (name_at (slice_get defs key.rec)) ∷ placed place (key.sym ∷ texts)) ≡ Ok (key, placed (place + length key.sym + 1) texts)
unfolding key_at
key_again hist defs key h end place texts =
    let name : List ℕ = name_at (slice_get defs key.rec) in
    let parts : List Part = placed (place + length key.sym + 1) texts in
    step (record_at hist defs end (first_part name ∷ placed place (key.sym ∷ texts))) (λ (rec : ℕ × List Part). symbol_at end rec.1 >>= λ (s : List ℕ × List Part). Ok (record { rec = rec.0; sym = s.0 }, s.1)) (key.rec, placed place (key.sym ∷ texts)) (reads (record_part hist defs) key.rec name h.rec.says end 1 (placed place (key.sym ∷ texts)))
    ∙ step (symbol_at end (placed place (key.sym ∷ texts))) (λ (s : List ℕ × List Part). Ok (record { rec = key.rec; sym = s.0 }, s.1)) (key.sym, parts) (reads symbol_part key.sym key.sym h.symbol end place parts)

-- body lines

-- a body line, by the parts behind its first
abbrev pub from_name : (ℕ → List Part → Result Item Fault) → List ℕ → ℕ → List Part → Result Item Fault
from_name line name end parts = line end (first_part name ∷ parts)

-- the line of an item that a body line spells
pub record IsBodyAgain (line : ℕ → List Part → Result Item Fault) (defs : List RecordDef) (item : Item) : Type 0 where
  pub name : List ℕ
  pub plain : IsPlainName name
  pub again : IsAgain (from_name line name) defs item name

pub record_is_again : (defs : List RecordDef) (key : Key) (values : List ℤ) → IsKeySaid false defs key → AreSaid (kinds_of_rec defs key.rec) values → IsBodyAgain (record_line defs) defs (record_item key values)
unfolding record_line
record_is_again defs key values k cells =
    let kinds : List FieldKind = kinds_of_rec defs key.rec in
    let name : List ℕ = name_at (slice_get defs key.rec) in
    let texts : List (List ℕ) = cell_texts kinds values in
    record {
      name = name;
      plain = k.rec.plain;
      again = record {
        rest = key.sym ∷ texts;
        texts = refl;
        no_tabs = (k.symbol.no_tab, no_tabs-cells kinds values cells);
        again = λ q p.
            step (key_at false defs q (first_part name ∷ placed p (key.sym ∷ texts))) (record_cells defs q) (key, placed (p + length key.sym + 1) texts) (key_again false defs key k q p texts)
            ∙ step (cells_at kinds q (placed (p + length key.sym + 1) texts)) (cells_done (record_item key) q) (values, []) (cells_again kinds values cells q (p + length key.sym + 1));
      };
    }

pub event_is_again : (defs : List RecordDef) (key : Key) (index flags : ℕ) (values : List ℤ) → IsKeySaid true defs key → Says (count_told (2 ^ 63 - 1)) index (decimal index) → Says flags_told flags (decimal flags) → AreSaid (kinds_of_rec defs key.rec) values → IsBodyAgain (event_line defs) defs (event_item key index flags values)
unfolding event_line
event_is_again defs key index flags values k i_says f_says cells =
    let kinds : List FieldKind = kinds_of_rec defs key.rec in
    let name : List ℕ = name_at (slice_get defs key.rec) in
    let texts : List (List ℕ) = cell_texts kinds values in
    record {
      name = name;
      plain = k.rec.plain;
      again = record {
        rest = key.sym ∷ decimal index ∷ decimal flags ∷ texts;
        texts = refl;
        no_tabs = (k.symbol.no_tab, (i_says.no_tab, (f_says.no_tab, no_tabs-cells kinds values cells)));
        again = λ q p.
            let p1 : ℕ = p + length key.sym + 1 in
            let p2 : ℕ = p1 + length (decimal index) + 1 in
            let p3 : ℕ = p2 + length (decimal flags) + 1 in
            step (key_at true defs q (first_part name ∷ placed p (key.sym ∷ decimal index ∷ decimal flags ∷ texts))) (event_index defs q) (key, placed p1 (decimal index ∷ decimal flags ∷ texts)) (key_again true defs key k q p (decimal index ∷ decimal flags ∷ texts))
            ∙ step (count_at (2 ^ 63 - 1) q (placed p1 (decimal index ∷ decimal flags ∷ texts))) (event_flags defs q key) (index, placed p2 (decimal flags ∷ texts)) (reads (count_part (2 ^ 63 - 1)) index (decimal index) i_says q p1 (placed p2 (decimal flags ∷ texts)))
            ∙ step (flags_at q (placed p2 (decimal flags ∷ texts))) (event_cells defs q key index) (flags, placed p3 texts) (reads flags_part flags (decimal flags) f_says q p2 (placed p3 texts))
            ∙ step (cells_at kinds q (placed p3 texts)) (cells_done (event_item key index flags) q) (values, []) (cells_again kinds values cells q p3);
      };
    }

pub sub_is_again : (hist : Bool) (defs : List RecordDef) (key : Key) → IsKeySaid hist defs key → IsBodyAgain (sub_line hist defs) defs (Sub key)
unfolding sub_line
sub_is_again hist defs key k =
    let name : List ℕ = name_at (slice_get defs key.rec) in
    record {
      name = name;
      plain = k.rec.plain;
      again = record {
        rest = key.sym ∷ [];
        texts = refl;
        no_tabs = (k.symbol.no_tab, tt);
        again = λ q p. step (key_at hist defs q (first_part name ∷ placed p (key.sym ∷ []))) (sub_done q) (key, []) (key_again hist defs key k q p []);
      };
    }

pub hist_sub_is_again : (defs : List RecordDef) (key : Key) (limit : ℕ) → IsKeySaid true defs key → Says (count_told (2 ^ 63 - 1)) limit (decimal limit) → IsBodyAgain (hist_sub_line defs) defs (hist_sub_item key limit)
unfolding hist_sub_line
hist_sub_is_again defs key limit k n_says =
    let name : List ℕ = name_at (slice_get defs key.rec) in
    record {
      name = name;
      plain = k.rec.plain;
      again = record {
        rest = key.sym ∷ decimal limit ∷ [];
        texts = refl;
        no_tabs = (k.symbol.no_tab, (n_says.no_tab, tt));
        again = λ q p.
            let p1 : ℕ = p + length key.sym + 1 in
            step (key_at true defs q (first_part name ∷ placed p (key.sym ∷ decimal limit ∷ []))) (hist_sub_limit q) (key, placed p1 (decimal limit ∷ [])) (key_again true defs key k q p (decimal limit ∷ []))
            ∙ step (count_at (2 ^ 63 - 1) q (placed p1 (decimal limit ∷ []))) (number_done hist_sub_item q key) (limit, []) (reads (count_part (2 ^ 63 - 1)) limit (decimal limit) n_says q p1 []);
      };
    }

pub lost_is_again : (defs : List RecordDef) (key : Key) (count : ℕ) → IsKeySaid false defs key → Says loss_told count (decimal count) → IsBodyAgain (lost_line defs) defs (Lost key count)
unfolding lost_line
lost_is_again defs key count k n_says =
    let name : List ℕ = name_at (slice_get defs key.rec) in
    record {
      name = name;
      plain = k.rec.plain;
      again = record {
        rest = key.sym ∷ decimal count ∷ [];
        texts = refl;
        no_tabs = (k.symbol.no_tab, (n_says.no_tab, tt));
        again = λ q p.
            let p1 : ℕ = p + length key.sym + 1 in
            step (key_at false defs q (first_part name ∷ placed p (key.sym ∷ decimal count ∷ []))) (lost_count q) (key, placed p1 (decimal count ∷ [])) (key_again false defs key k q p (decimal count ∷ []))
            ∙ step (loss_at q (placed p1 (decimal count ∷ []))) (number_done Lost q key) (count, []) (reads loss_part count (decimal count) n_says q p1 []);
      };
    }
