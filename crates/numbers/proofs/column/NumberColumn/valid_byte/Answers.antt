use Rattle.std.proofs.Common.{◌≡◌, ◌+◌, ◌*◌, true, sym, ap, ◌∙◌, ⊎_elim}
use Rattle.parts.specs.Parts.{valid_at}
use Rattle.numbers.proofs.EightRows.{all_set}
use Rattle.numbers.proofs.column.NumberColumn.valid_byte.Goals as goal

pub returns-in-NonNullable : goal.returns-in-NonNullable
returns-in-NonNullable g c = λ b h.
    let s = c.args.self.now in
    let all : true ≡ valid_at s.validity s.bytes.now (8 * c.args.k + b) =
    ⊎_elim (λ e. ap (λ v. valid_at v s.bytes.now (8 * c.args.k + b)) (sym e)) (λ e. ap (λ v. valid_at v s.bytes.now (8 * c.args.k + b)) (sym e)) c.in-NonNullable.is in
    all_set b h ∙ all
