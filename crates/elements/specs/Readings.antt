-- Worked readings of the definitions. Assumes nothing.
use Rattle.std.specs.Prelude.{◌≡◌, false, [], ◌∷◌, pos, negsuc, codes}
use Rattle.std.specs.declared.cmp.Ordering.TheVariants.{Less, Equal, Greater}
use Rattle.rows.specs.Operators.{holds}
use Rattle.rows.specs.Row.{null, number, list, text, is_null, order}
use Rattle.rows.specs.declared.operator.CompareOperator.TheVariants.{Eq}
use Rattle.elements.specs.declared.ptype.PType.TheVariants.{F32}
use Rattle.elements.specs.Keys.{key_of, by_key}

pub record Readings : Type 0 where
  -- "ab" is less than "ab" with a zero byte, and Eq is 0
  pub beginning : order (text (codes "ab")) (text (97 ∷ 98 ∷ 0 ∷ [])) ≡ Less
  pub beginning_eq : holds Eq (order (text (codes "ab")) (text (97 ∷ 98 ∷ 0 ∷ []))) ≡ false
  -- F32 0x80000000 has key −1, and 0x00000000 has key 0
  pub minus_zero : key_of F32 0x8000_0000 ≡ negsuc 0
  pub plus_zero : key_of F32 0x0000_0000 ≡ pos 0
  -- F32 0x7FC00000 has key 2143289344, above 0x7F800000 with 2139095040
  pub nan : key_of F32 0x7FC0_0000 ≡ pos 2143289344
  pub infinity : key_of F32 0x7F80_0000 ≡ pos 2139095040
  pub nan_above : by_key (key_of F32) 0x7FC0_0000 0x7F80_0000 ≡ Greater
  -- −2.0 is below −1.0, which signed integers would put the other way round
  pub minus_two : by_key (key_of F32) 0xC000_0000 0xBF80_0000 ≡ Less
  -- [1] is less than [1, null], and [null] less than [0]
  pub one_null : order (list (number (pos 1) ∷ [])) (list (number (pos 1) ∷ null ∷ [])) ≡ Less
  pub null_zero : order (list (null ∷ [])) (list (number (pos 0) ∷ [])) ≡ Less
  -- (1, null) is less than (1, 5), and is not null itself
  pub field_null : order (list (number (pos 1) ∷ null ∷ [])) (list (number (pos 1) ∷ number (pos 5) ∷ [])) ≡ Less
  pub field_valid : is_null (list (number (pos 1) ∷ null ∷ [])) ≡ false
  -- rows without fields are equal
  pub no_fields : order (list []) (list []) ≡ Equal
