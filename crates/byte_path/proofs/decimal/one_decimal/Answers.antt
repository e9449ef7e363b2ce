use Rattle.byte_path.proofs.Decimals.{is_decimal-decimal, digits_value-of_decimal, decimal-of_its_number, is_decimal-digits}
use Rattle.byte_path.proofs.decimal.one_decimal.Goals as goal

pub returns : goal.returns
returns c = record {
  right = is_decimal-decimal;
  number = digits_value-of_decimal;
  only = decimal-of_its_number;
  digits = is_decimal-digits;
}
