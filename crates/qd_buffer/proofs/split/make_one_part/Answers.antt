use Rattle.std.proofs.Common.{ap, ◌∙◌, [], ◌∷◌, ◌++◌}
use Rattle.qd_buffer.proofs.Cutting.{AreStripes-one}
use Rattle.qd_buffer.proofs.split.make_one_part.Goals as goal

pub returns-clause-parts : goal.returns-clause-parts
returns-clause-parts g c = AreStripes-one g.T.Keyed.key_of c.args.items.now c.push.new.self.items (
    c.in_ok-push.ensures.items
    ∙ ap (λ xs. xs ++ c.in_ok-of_slice.field-0 ∷ []) c.requires.empty
    ∙ ap (λ b. b ∷ []) c.in_ok-of_slice.ensures.made)
