-- Rows of what a line of a scheme file leaves: memory is wanted of a record's line alone, and each answer has its line.
use Rattle.std.proofs.Common.{◌≡◌, true, [], refl}
use Rattle.std.specs.Prelude.{codes, Err}
use Rattle.qd_text.specs.declared.scheme_reader.SchemeEnd.TheVariants.{NoMemory}
use Rattle.qd_text.specs.SchemeLines.{SchemeText, no_lines, is_record_line, IsLineRead}

-- a comment, an empty line, a control line and a line that describes nothing want none
no_want_of_a_comment : (new : SchemeText) → IsLineRead no_lines (codes "# x") (Err NoMemory) new → ⊥
no_want_of_a_comment new (same, wants) = absurd (cc)

no_want_of_nothing : (new : SchemeText) → IsLineRead no_lines [] (Err NoMemory) new → ⊥
no_want_of_nothing new (same, wants) = absurd (cc)

no_want_of_an_end : (new : SchemeText) → IsLineRead no_lines (codes "==END") (Err NoMemory) new → ⊥
no_want_of_an_end new (same, wants) = absurd (cc)

no_want_of_a_word : (new : SchemeText) → IsLineRead no_lines (codes "Quote") (Err NoMemory) new → ⊥
no_want_of_a_word new (same, wants) = absurd (cc)

-- a record's line may, and nothing is read then
wants_of_a_record : is_record_line (codes "=Bar") ≡ true
wants_of_a_record = refl

nothing_is_read_then : (new : SchemeText) → IsLineRead no_lines (codes "=Bar") (Err NoMemory) new → new ≡ no_lines
nothing_is_read_then new (same, wants) = same
