-- `format_image` zeroes the pages set aside and puts the header in front of them, which is what the definitions write.
use Rattle.fields.proofs.Plain.{arith, refl}
use Rattle.laws2.proofs.Bounds.{bounds}
use Rattle.format2.proofs.Formats2.{Numbers, numbers, format_done}
use Rattle.format2.proofs.format_image.Goals as goal

pub shape_of-cartridge-requires : goal.shape_of-cartridge-requires
shape_of-cartridge-requires c = (bounds c.requires).low

pub overflow_sub-free : goal.overflow_sub-free
overflow_sub-free c =
    let known : Numbers c.args.code c.args.image.now c.shape_of-cartridge.result.shape c.shape_of-cartridge.result.pages = numbers _ _ c.requires c.shape_of-cartridge.ensures in
    let k = known in omega arith

pub overflow_cast-header-2 : goal.overflow_cast-header-2
overflow_cast-header-2 c =
    let known : Numbers c.args.code c.args.image.now c.shape_of-cartridge.result.shape c.shape_of-cartridge.result.pages = numbers _ _ c.requires c.shape_of-cartridge.ensures in
    let k = known in omega arith

pub overflow_cast-header-4 : goal.overflow_cast-header-4
overflow_cast-header-4 c =
    let known : Numbers c.args.code c.args.image.now c.shape_of-cartridge.result.shape c.shape_of-cartridge.result.pages = numbers _ _ c.requires c.shape_of-cartridge.ensures in
    let k = known in omega arith

pub overflow_cast-header-5 : goal.overflow_cast-header-5
overflow_cast-header-5 c =
    let known : Numbers c.args.code c.args.image.now c.shape_of-cartridge.result.shape c.shape_of-cartridge.result.pages = numbers _ _ c.requires c.shape_of-cartridge.ensures in
    let k = known in omega arith

pub marks_below-requires : goal.marks_below-requires
marks_below-requires c =
    let known : Numbers c.args.code c.args.image.now c.shape_of-cartridge.result.shape c.shape_of-cartridge.result.pages = numbers _ _ c.requires c.shape_of-cartridge.ensures in
    let k = known in omega arith

pub zero_aside-requires : goal.zero_aside-requires
zero_aside-requires c =
    let known : Numbers c.args.code c.args.image.now c.shape_of-cartridge.result.shape c.shape_of-cartridge.result.pages = numbers _ _ c.requires c.shape_of-cartridge.ensures in
    known.inside

pub fill_page-requires : goal.fill_page-requires
fill_page-requires c =
    let known : Numbers c.args.code c.args.image.now c.shape_of-cartridge.result.shape c.shape_of-cartridge.result.pages = numbers _ _ c.requires c.shape_of-cartridge.ensures in
    let k = known in (omega (arith, k.first, c.zero_aside.auto.image), omega arith, omega arith)

pub returns : goal.returns
returns c =
    let marked = c in
    let shape = marked in
    format_done _ shape.shape_of-cartridge.result.shape shape.requires shape.shape_of-cartridge.ensures refl refl marked.marks_below.ensures c.zero_aside.ensures c.fill_page.ensures
