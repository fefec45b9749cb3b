-- `export::hex::put_word` meets its contract: its eight digits. Assumes nothing.
use Rattle.export.proofs.Digits.{word-digits, sets-all}
use Rattle.export.proofs.hex.put_word.Goals as goal

pub returns : goal.returns
returns c =
    rw (
      word-digits,
      ← c.digit.ensures,
      ← c.digit-2.ensures,
      ← c.digit-3.ensures,
      ← c.digit-4.ensures,
      ← c.digit-5.ensures,
      ← c.digit-6.ensures,
      ← c.digit-7.ensures,
      ← c.digit-8.ensures,
    )
    (sets-all _ c.args.out.now c.requires)
