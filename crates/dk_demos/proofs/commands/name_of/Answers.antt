use Rattle.dk_demos.proofs.Names.{is_one, none_empty, none_long, none_torn}
use Rattle.dk_demos.proofs.commands.name_of.Goals as goal

pub returns-in-Ok : goal.returns-in-Ok
returns-in-Ok c = (c.in-Ok.ensures.ok.0, is_one c.args.bytes.now c.in-Ok.ensures.ok.1)

pub returns-in-Err-Empty : goal.returns-in-Err-Empty
returns-in-Err-Empty c = none_empty c.args.bytes.now (rw c.in-Err-Empty.field-0-is at c.in-Err-Empty.ensures.refused)

pub returns-in-Err-TooLong : goal.returns-in-Err-TooLong
returns-in-Err-TooLong c = let why = rw c.in-Err-TooLong.field-0-is at c.in-Err-TooLong.ensures.refused in none_long c.args.bytes.now why.0

pub returns-in-Err-NotUtf8 : goal.returns-in-Err-NotUtf8
returns-in-Err-NotUtf8 c = let why = rw c.in-Err-NotUtf8.field-0-is at c.in-Err-NotUtf8.ensures.refused in none_torn c.args.bytes.now (rw why.2 at why.3)
